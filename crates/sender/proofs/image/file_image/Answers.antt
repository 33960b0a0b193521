use Rattle.std.proofs.Common.{vec_items, sym, ap, ◌∙◌}
use Rattle.std.specs.List.{slice_get}
use Rattle.std.proofs.lemmas.Option.{slice_get-get_or}
use Rattle.codetable.specs.Tables.{words}
use Rattle.sender.proofs.Imaged.{table_more}
use Rattle.sender.proofs.image.file_image.Goals as goal

pub push_entry-requires-clause-formed : goal.push_entry-requires-clause-formed
push_entry-requires-clause-formed c =
    let there = ap (λ ws. slice_get ws c.loop-k.k) (sym c.loop-k.invariant.0) ∙ slice_get-get_or _ c.loop-k.k _ c.loop-k-test.true in
    c.args.table.now.formed c.loop-k.k _ there

pub loop-k-preserved : goal.loop-k-preserved
loop-k-preserved c =
    let there = ap (λ ws. slice_get ws c.loop-k.k) (sym c.loop-k.invariant.0) ∙ slice_get-get_or _ c.loop-k.k _ c.loop-k-test.true in (
      c.loop-k.invariant.0,
      table_more (words c.args.table.now) c.loop-k.k _ (vec_items c.loop-k.image) (vec_items c.push_entry.new.image) there c.loop-k.invariant.1 c.in_ok-push_entry.ensures.bytes,
    )
