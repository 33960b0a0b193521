-- A queue of either of two kinds holds no place from its size on.
use Rattle.either.specs.declared.Either.{Either}
use Rattle.either.specs.declared.Either.TheVariants.{Left, Right}
use Rattle.either.specs.Either.{either}
use Rattle.queue.specs.Queues.{Model, Bounded}

pub either_bounded : {A B : Type 0} (f : A → Model) (g : B → Model) → ((a : A) → Bounded (f a)) → ((b : B) → Bounded (g b)) → (e : Either A B) → Bounded (either f g e)
either_bounded f g p q (Left a) = p a
either_bounded f g p q (Right b) = q b
