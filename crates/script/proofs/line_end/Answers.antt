use Rattle.std.proofs.Common.{◌≡◌, ◌+◌, drop, rules, tests, ap, ◌∙◌}
use Rattle.std.specs.List.{position_or_len}
use Rattle.std.proofs.lemmas.List.{take_rest}
use Rattle.script.specs.Script.{newline}
use Rattle.script.proofs.Parts.{first_part, part_more, part_last}
use Rattle.script.proofs.line_end.Goals as goal

-- where the line ends, counted from its start
ends : (c : goal.After-len_before) → c.len_before.result ≡ position_or_len newline (drop c.args.from c.args.text.now)
ends c =
    c.len_before.ensures.first newline (λ x b q k. search (rules, tests))
    ∙ ap (position_or_len newline) (c.in-Some.ensures.lookup.0.2 ∙ take_rest c.args.text.now c.args.from)

pub returns-clause-ends : goal.returns-clause-ends
returns-clause-ends c = ap (λ n. c.args.from + n) (ends c ∙ first_part newline (drop c.args.from c.args.text.now))

pub returns-clause-more : goal.returns-clause-more
returns-clause-more c = part_more newline c.args.text.now c.args.from c.len_before.result (ends c) c.in-Some.ensures.lookup.0.0

pub returns-clause-last : goal.returns-clause-last
returns-clause-last c = part_last newline c.args.text.now c.args.from c.len_before.result (ends c)
