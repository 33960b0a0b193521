-- The number of places held: of none, of the same places, and after one place is set.
use Rattle.std.proofs.Common.{◌≡◌, ℕ, zero, suc, ◌+◌, ◌<◌, ◌≤◌, Bool, true, false, List, length, get_or, take, count_by, is_some, Some, None, Option, sym, refl, ap, ◌∙◌, ⊎_elim, not-suc-le-zero, add-one, arith}
use Rattle.std.proofs.lemmas.Bool.{cases_eq, cases_Bool, true≢false}
use Rattle.std.proofs.lemmas.List.{take_all}
use Rattle.std.proofs.lemmas.List.Sums.{count_by_more_yes, count_by_more_no}
use Rattle.queue.specs.Queues.{Model, Same, Sets, tally, one, held_count}

-- the same places
pub tally_same : (f g : ℕ → Option ℕ) (n : ℕ) → ((p : ℕ) → p < n → g p ≡ f p) → tally g n ≡ tally f n
unfolding tally
tally_same f g zero e = refl
tally_same f g (suc n) e =
    let before = tally_same f g n (λ p h. e p (omega arith)) in
    let here : one (g n) ≡ one (f n) = ap one (e n (omega arith)) in
    omega arith

-- no place
pub tally_bare : (f : ℕ → Option ℕ) (n : ℕ) → ((p : ℕ) → f p ≡ None) → tally f n ≡ 0
unfolding tally
tally_bare f zero e = refl
tally_bare f (suc n) e =
    let before = tally_bare f n e in
    let here : one (f n) ≡ 0 = ap one (e n) in
    omega arith

-- all but one place the same
pub tally-set : (f g : ℕ → Option ℕ) (n p : ℕ) → p < n → ((q : ℕ) → (q ≡ p → ⊥) → g q ≡ f q) → tally g n + one (f p) ≡ tally f n + one (g p)
unfolding tally
tally-set f g zero p lt e = absurd (not-suc-le-zero lt)
tally-set f g (suc n) p lt e =
    ⊎_elim
    (λ h.
    let before = tally_same f g n (λ q below. e q (λ same. omega arith)) in
    let there : one (f p) ≡ one (f n) = ap (λ (q : ℕ). one (f q)) h in
    let here : one (g p) ≡ one (g n) = ap (λ (q : ℕ). one (g q)) h in
    omega arith)
    (λ h.
    let before = tally-set f g n p (omega arith) e in
    let last : one (g n) ≡ one (f n) = ap one (e n (λ same. h (sym same))) in
    omega arith)
    (cases_eq p n)

-- each place counts at most once
pub one_most : (o : Option ℕ) → one o ≤ 1
one_most None = omega arith
one_most (Some k) = omega arith

pub tally_most : (f : ℕ → Option ℕ) (n : ℕ) → tally f n ≤ n
unfolding tally
tally_most f zero = omega arith
tally_most f (suc n) = let before = tally_most f n in let last = one_most (f n) in omega arith

-- a place that is not held leaves room for one more
pub tally_room : (f : ℕ → Option ℕ) (n p : ℕ) → p < n → f p ≡ None → tally f n < n
unfolding tally
tally_room f zero p lt e = absurd (not-suc-le-zero lt)
tally_room f (suc n) p lt e =
    ⊎_elim
    (λ h.
    let before = tally_most f n in
    let last : one (f n) ≡ 0 = ap (λ (q : ℕ). one (f q)) (sym h) ∙ ap one e in
    omega arith)
    (λ h. let before = tally_room f n p (omega arith) e in let last = one_most (f n) in omega arith)
    (cases_eq p n)

-- a place that is held counts
pub tally_some : (f : ℕ → Option ℕ) (n p k : ℕ) → p < n → f p ≡ Some k → 0 < tally f n
unfolding tally
tally_some f zero p k lt e = absurd (not-suc-le-zero lt)
tally_some f (suc n) p k lt e =
    ⊎_elim
    (λ h. let last : one (f n) ≡ 1 = ap (λ (q : ℕ). one (f q)) (sym h) ∙ ap one e in omega arith)
    (λ h. let before = tally_some f n p k (omega arith) e in omega arith)
    (cases_eq p n)

-- what a test for a key says of the count
pub one_some : (o : Option ℕ) → is_some o ≡ true → one o ≡ 1
one_some None e = let z : ◌≡◌ {A = Bool} true false = sym e in absurd (true≢false z)
one_some (Some k) e = refl

pub one_none : (o : Option ℕ) → is_some o ≡ false → one o ≡ 0
one_none None e = refl
one_none (Some k) e = absurd (true≢false e)

-- the places of a row that have a key
tally_front : (cells : List (Option ℕ)) (n : ℕ) → n ≤ length cells → tally (λ p. get_or cells p None) n ≡ count_by is_some (take n cells)
unfolding tally
tally_front cells zero le = refl
tally_front cells (suc n) le =
    let before = tally_front cells n (omega arith) in
    let next : count_by is_some (take (n + 1) cells) ≡ count_by is_some (take (suc n) cells) = ap (λ (m : ℕ). count_by is_some (take m cells)) (add-one n) in
    ⊎_elim
    (λ h.
    let more = count_by_more_yes is_some cells n None (omega arith) h in
    let here = one_some (get_or cells n None) h in
    omega arith)
    (λ h.
    let more = count_by_more_no is_some cells n None (omega arith) h in
    let here = one_none (get_or cells n None) h in
    omega arith)
    (cases_Bool (is_some (get_or cells n None)))

pub tally_cells : (cells : List (Option ℕ)) → tally (λ p. get_or cells p None) (length cells) ≡ count_by is_some cells
tally_cells cells =
    tally_front cells (length cells) (omega arith) ∙ ap (λ (xs : List (Option ℕ)). count_by is_some xs) (take_all (length cells) cells (omega arith))

-- the number held by a queue that stays the same, and by one of which one place is set
pub count_same : (m q : Model) → Same m q → held_count q ≡ held_count m
count_same m q same =
    ap (λ (n : ℕ). tally q.key n) same.size ∙ tally_same m.key q.key m.size (λ p h. same.keys p)

pub count_set : (m q : Model) (p : ℕ) (given : Option ℕ) → p < m.size → Sets m q p given → held_count q + one (m.key p) ≡ held_count m + one given
count_set m q p given below set =
    let sized : held_count q ≡ tally q.key m.size = ap (λ (n : ℕ). tally q.key n) set.size in
    let step = tally-set m.key q.key m.size p below set.others in
    let here : one (q.key p) ≡ one given = ap one set.here in
    omega arith
