use Rattle.reader.proofs.Answered.{refused_load}
use Rattle.reader.proofs.load_words.Goals as goal

pub returns-in_err-loaded : goal.returns-in_err-loaded
returns-in_err-loaded g c =
    record { obeys = refused_load c.from_residual.result c.in_err-loaded.field-0.0 _ _ c.from_residual.ensures.0 c.from_residual.ensures.1 (rw c.from.ensures at c.in_err-loaded.ensures.works) }
