use Rattle.std.proofs.Common.{◌≡◌, ℕ, List, length, Some, None, Option, sym, refl, ap, ◌∙◌, subst}
use Rattle.refusal.specs.declared.Refusal.{Refusal}
use Rattle.refusal.specs.declared.Refusal.TheVariants.{Search}
use Rattle.decoder.specs.declared.list.WordList.{WordList}
use Rattle.decoder.specs.Lists.{numbers}
use Rattle.decoder.specs.Metrics.{Best, Corrects, metric, changed}
use Rattle.decoder.specs.Decoding.{Remains, decode_checks}
use Rattle.loader.specs.Sheets.{Loads, Spared, with_pattern}
use Rattle.loader.specs.Held.{sheet}
use Rattle.loader.proofs.Passed.{passed, spares_as}
use Rattle.loader.proofs.Loader.load.Goals as goal

pub returns-in_err-decoded : goal.returns-in_err-decoded
returns-in_err-decoded g c =
    let s = sheet c.args.self.now in
    let m = g.Q.Queue.model c.args.queue.now in
    let q = g.Q.Queue.model c.decode.new.queue in
    let costs = c.args.costs.now in
    let costs' = c.decode.new.costs in
    let ahead = c.args.ahead.now in
    let ahead' = c.decode.new.ahead in
    let refused = c.in_err-decoded.ensures.answer in
    record {
      works = passed (decode_checks s.table s.received c.args.count m costs ahead) c.from_residual.result (Search c.in_err-decoded.field-0.0) (λ d. Loads s c.args.count d s × Remains s.table s.received c.args.count (Some d.metric) m q costs costs' ahead ahead') (λ (f : Refusal). (s ≡ s) × Spared f ((q ≡ m) × (costs' ≡ costs) × (ahead' ≡ ahead)) (Remains s.table s.received c.args.count None m q costs costs' ahead ahead')) c.from_residual.ensures.0 c.from_residual.ensures.1 refused.0 (refl, spares_as c.in_err-decoded.field-0.0 _ ((q ≡ m) × (costs' ≡ costs) × (ahead' ≡ ahead)) (Remains s.table s.received c.args.count None m q costs costs' ahead ahead') (λ same. (ap g.Q.Queue.model same.0, same.1, same.2)) refused.1);
    }

pub returns : goal.returns
returns g c =
    let s = sheet c.args.self.now in
    let n = c.args.count in
    let found = c.in_ok-decoded.ensures.answer in
    let d = found.1.0 in
    -- what is stored is what was decoded
    let stored : numbers c.in_ok-decoded.decoded.list ≡ numbers c.store.new.self.current = ap numbers (sym c.store.ensures.value) in
    let old : Some (numbers c.current.result) ≡ Some s.pattern = ap (λ (l : WordList). Some (numbers l)) c.current.ensures.value in
    record {
      works = (
        found.0,
        (
          record {
            best = subst (λ (ks : List ℕ). Best s.table s.received (length s.received) n ks) stored d.best;
            stored = ap (λ (o : Option (List ℕ)). with_pattern s (numbers c.store.new.self.current) o) old;
            its_metric = d.its_metric ∙ ap (metric s.table s.received) stored;
            its_changed = d.its_changed ∙ ap (changed s.table s.received) stored;
            opened = d.opened;
            waiting = d.waiting;
            corrects = subst (λ (ks : List ℕ). Corrects s.table s.received n ks) stored d.corrects;
          },
          found.1.1,
        ),
      );
    }
