-- The paths of the tails map are pairs of word sequences.
use Rattle.std.proofs.Common.{◌≡◌, ℕ, zero, suc, ◌+◌, ◌-◌, ◌<◌, ◌≤◌, Bool, ◌⊎◌, List, [], ◌∷◌, ◌++◌, length, drop, Some, sym, refl, ap, ◌∙◌, subst, inl, inr, ⊎_elim, append-nil, arith, length-append, length-drop}
use lib.Seq.{drop-append-add}
use Rattle.std.specs.List.{slice_get}
use Rattle.std.proofs.lemmas.List.{drop-drop, drop_all}
use Rattle.std.proofs.lemmas.Bool.{cases_order}
use Rattle.codetable.specs.declared.word.Codeword.{Codeword}
use Rattle.codetable.specs.Codewords.{bits, most_bits}
use Rattle.codetable.specs.Sequences.{bits_at, Sequence, joined_bits}
use Rattle.codetable.proofs.Bits.{length-bits}
use Rattle.codetable.proofs.Sequences.{bits_there, joined_push, sequence_push}
use Rattle.codetable.proofs.Stored.{nth_within, nth_there}
use Rattle.search.specs.Graphs.{Path, LeastCost, Edge, here, on}
use Rattle.distance.specs.Distances.{hamming, distance, Rivals, FreeDistance}
use Rattle.distance.specs.Tails.{tails, tail_place, start_place, finish_place, next_place, compared}
use Rattle.distance.specs.Steps.{Compares, Step, first, later, stepped, first_edge, later_edge}
use Rattle.distance.specs.Laws.{Sound, Leads, word_longer, tail_longer, equal, leads_to}
use Rattle.distance.specs.Calls.{Part, Leading, PathsArePairs}
use Rattle.distance.proofs.Rows.{hamming_none, hamming_sym, hamming_shared, hamming_behind, hamming_cut}

part_sym : (ks ls : List ℕ) → Part ks ls → Part ls ks
part_sym ks ls p =
    record { x = p.y; y = p.x; xs = p.ys; ys = p.xs; one = p.other; other = p.one; apart = λ e. p.apart (sym e) }

part_push : (ks ls : List ℕ) (j : ℕ) → Part ks ls → Part ks (ls ++ j ∷ [])
part_push ks ls j p =
    record { x = p.x; y = p.y; xs = p.xs; ys = p.ys ++ j ∷ []; one = p.one; other = ap (λ (l : List ℕ). l ++ j ∷ []) p.other; apart = p.apart }

part_differs : (ks ls : List ℕ) → Part ks ls → ks ≡ ls → ⊥
part_differs ks ls p e = let one = p.one in let other = p.other in let heads : p.x ≡ p.y = cc in p.apart heads

module _ (ws : List Codeword) (s : Sound ws) where
  -- what a place and the cost of a path to it stand for
  record AtStart (p d : ℕ) : Type 0 where
    place : p ≡ start_place
    nothing : d ≡ 0

  record AtTail (p d : ℕ) : Type 0 where
    k : ℕ
    c : ℕ
    some : 0 < c
    few : c < most_bits
    place : p ≡ tail_place k c
    lead : Leading ws k c d

  record AtFinish (p d : ℕ) : Type 0 where
    ks : List ℕ
    ls : List ℕ
    place : p ≡ finish_place
    rivals : Rivals ws ks ls
    cost : distance ws ks ls ≡ d

  abbrev Stands : ℕ → ℕ → Type 0
  Stands p d = AtStart p d ⊎ (AtTail p d ⊎ AtFinish p d)

  long : (k : ℕ) (w : Codeword) → slice_get ws k ≡ Some w → (1 ≤ length (bits w)) × (length (bits w) ≡ w.len)
  long k w e = let l = length-bits w.len w.value in (omega (arith, (s.formed k w e).0), l)

  -- one word more on the side that is behind
  extend : (ahead behind : List ℕ) (i c j q d e : ℕ) → Sequence ws ahead → Sequence ws behind → (m : Compares ws i c j q e) → c < m.a.len → drop (length (joined_bits ws behind)) (joined_bits ws ahead) ≡ drop c (bits m.a) → Part ahead (behind ++ j ∷ []) → distance ws ahead behind ≡ d → Stands q (d + e)
  extend ahead behind i c j q d e one other m less beyond part cost =
      let A = joined_bits ws ahead in
      let B = joined_bits ws behind in
      let t = drop c (bits m.a) in
      let w = bits m.b in
      let left = m.a.len - c in
      let n = m.b.len in
      let behind' = behind ++ j ∷ [] in
      let other' = sequence_push ws behind j other (nth_within ws j m.b m.at_j) in
      let bits' : joined_bits ws behind' ≡ B ++ w = joined_push ws behind j ∙ ap (λ (l : List Bool). B ++ l) (bits_there ws j m.b m.at_j) in
      let long_a = long i m.a m.at_i in
      let long_b = long j m.b m.at_j in
      let short_a = (s.formed i m.a m.at_i).1 in
      let short_b = (s.formed j m.b m.at_j).1 in
      let long_t : length t ≡ left = length-drop c (bits m.a) ∙ ap (λ (x : ℕ). x - c) long_a.1 in
      let over : length A - length B ≡ left = sym (length-drop (length B) A) ∙ ap length beyond ∙ long_t in
      let long_A : length A ≡ length B + left = omega arith in
      let long_B : length (B ++ w) ≡ length B + n = length-append B w ∙ ap (λ (x : ℕ). length B + x) long_b.1 in
      let step : e ≡ hamming t w = ap (λ (x : ℕ × ℕ). x.1) m.leads in
      let more = hamming_behind B w A in
      let swap = hamming_sym B A in
      let turn : hamming w (drop (length B) A) ≡ hamming t w = ap (hamming w) beyond ∙ hamming_sym w t in
      let cost' : hamming (B ++ w) A ≡ d + e = omega arith in
      let one_way : distance ws behind' ahead ≡ d + e = ap (λ (l : List Bool). hamming l A) bits' ∙ cost' in
      let other_way : distance ws ahead behind' ≡ d + e = hamming_sym A (joined_bits ws behind') ∙ one_way in
      let goes : (r : ℕ) → Leads i c left j n r → Stands r (d + e) = λ r way.
      elim way as (λ r way. Stands r (d + e)) [
        | word_longer lt ↦
            inr (inl (record {
              k = j;
              c = left;
              some = omega arith;
              few = omega arith;
              place = refl;
              lead = record {
                ahead = behind';
                behind = ahead;
                one = other';
                other = one;
                part = part_sym ahead behind' part;
                word = m.b;
                at_k = m.at_j;
                less = lt;
                beyond = ap (drop (length A)) bits' ∙ ap (λ (x : ℕ). drop x (B ++ w)) long_A ∙ drop-append-add B w left;
                cost = one_way;
              };
            }))
        | tail_longer lt ↦
            inr (inl (record {
              k = i;
              c = c + n;
              some = omega arith;
              few = omega arith;
              place = refl;
              lead = record {
                ahead = ahead;
                behind = behind';
                one = one;
                other = other';
                part = part;
                word = m.a;
                at_k = m.at_i;
                less = omega arith;
                beyond = ap (λ (l : List Bool). drop (length l) A) bits' ∙ ap (λ (x : ℕ). drop x A) long_B ∙ sym (drop-drop n (length B) A) ∙ ap (drop n) beyond ∙ drop-drop n c (bits m.a);
                cost = other_way;
              };
            }))
        | equal same ↦
            inr (inr (record {
              ks = ahead;
              ls = behind';
              place = refl;
              rivals = record {
                one = one;
                other = other';
                different = part_differs ahead behind' part;
                equally_long = let l = ap length bits' in omega arith;
              };
              cost = other_way;
            }))
      ] in
      subst (λ (r : ℕ). Stands r (d + e)) (sym (ap (λ (x : ℕ × ℕ). x.0) m.leads)) (goes (next_place i c left j n) (leads_to i c left j n))

  same_tail : (i k c b : ℕ) → 0 < c → c < most_bits → 0 < b → b < most_bits → tail_place i b ≡ tail_place k c → (i ≡ k) × (b ≡ c)
  same_tail i k c b some few some' few' e = (omega arith, omega arith)

  -- from the start two words with different numbers are compared
  from_start : {i j q d e : ℕ} → i < j → Compares ws i 0 j q e → Stands start_place d → Stands q (d + e)
  from_start {i} {j} {q} {d} {e} lt m (inl at) =
      let there = bits_there ws i m.a m.at_i in
      let one : Sequence ws (i ∷ []) = (nth_within ws i m.a m.at_i, tt) in
      let part : Part (i ∷ []) (j ∷ []) = record { x = i; y = j; xs = []; ys = []; one = refl; other = refl; apart = λ same. omega arith } in
      let some = (s.formed i m.a m.at_i).0 in
      let begun = extend (i ∷ []) [] i 0 j q 0 e one tt m (omega arith) (append-nil (bits_at ws i) ∙ there) part (hamming_none (joined_bits ws (i ∷ []))) in
      subst (λ (x : ℕ). Stands q (x + e)) (sym at.nothing) begun
  from_start lt m (inr (inl at)) = let few = at.few in let some = at.some in let place = at.place in absurd (omega arith)
  from_start lt m (inr (inr at)) = let place = at.place in absurd (omega arith)

  -- from a tail it is compared with a word
  from_tail : {i c j q d e : ℕ} → 0 < c → (m : Compares ws i c j q e) → c < m.a.len → Stands (tail_place i c) d → Stands q (d + e)
  from_tail {i} {c} {j} {q} {d} {e} some m less (inl at) =
      let place = at.place in let short = (s.formed i m.a m.at_i).1 in absurd (omega arith)
  from_tail {i} {c} {j} {q} {d} {e} some m less (inr (inl at)) =
      let short = (s.formed i m.a m.at_i).1 in
      let same = same_tail i at.k at.c c at.some at.few some (omega arith) at.place in
      let lead = at.lead in
      let at_k : slice_get ws i ≡ Some lead.word = ap (slice_get ws) same.0 ∙ lead.at_k in
      let at_i = m.at_i in
      let word : lead.word ≡ m.a = cc in
      let beyond = lead.beyond ∙ ap (λ (x : ℕ). drop x (bits lead.word)) (sym same.1) ∙ ap (λ (x : Codeword). drop c (bits x)) word in
      extend lead.ahead lead.behind i c j q d e lead.one lead.other m less beyond (part_push lead.ahead lead.behind j lead.part) lead.cost
  from_tail {i} {c} {j} {q} {d} {e} some m less (inr (inr at)) = let place = at.place in absurd (omega arith)

  by_step : {p q d e : ℕ} → Step ws p q e → Stands p d → Stands q (d + e)
  by_step (first lt m) before = from_start lt m before
  by_step (later some m less) before = from_tail some m less before

  stands : {p d : ℕ} → Path (tails ws) p d → Stands p d
  stands here = inl (record { place = refl; nothing = refl })
  stands (on {p} {q} {c} {d} path edge) = by_step (stepped ws p q d edge) (stands path)

  leads : (k c d : ℕ) → 0 < c → c < most_bits → Stands (tail_place k c) d → Leading ws k c d
  leads k c d some few (inl at) = let place = at.place in absurd (omega arith)
  leads k c d some few (inr (inl at)) =
      let same = same_tail k at.k at.c c at.some at.few some few at.place in
      subst (λ (x : ℕ). Leading ws x c d) (sym same.0) (subst (λ (x : ℕ). Leading ws at.k x d) (sym same.1) at.lead)
  leads k c d some few (inr (inr at)) = let place = at.place in absurd (omega arith)

  meets : (d : ℕ) → Stands finish_place d → (ks : List ℕ) × (ls : List ℕ) × Rivals ws ks ls × (distance ws ks ls ≡ d)
  meets d (inl at) = let place = at.place in absurd (omega arith)
  meets d (inr (inl at)) = let some = at.some in let place = at.place in absurd (omega arith)
  meets d (inr (inr at)) = (at.ks, at.ls, at.rivals, at.cost)

  -- a path to the finish that costs no more than h
  abbrev Reach : ℕ → Type 0
  Reach h = (d : ℕ) × Path (tails ws) finish_place d × (d ≤ h)

  reach_most : (g h : ℕ) → g ≤ h → Reach g → Reach h
  reach_most g h le r = (r.0, r.1, omega (arith, r.2))

  -- From place p, word i without its first c bits is compared with word j, and then come the words of two sequences. If
  -- these have fewer than n words and all bits meet, a path leads to the finish, and costs no more than their distance.
  abbrev Finishes : ℕ → Type 0
  Finishes n = (p d i c j : ℕ) (a b : Codeword) → Path (tails ws) p d → Edge (tails ws) p (compared i a c j b).0 (compared i a c j b).1 → slice_get ws i ≡ Some a → slice_get ws j ≡ Some b → c < a.len → (ks ls : List ℕ) → Sequence ws ks → Sequence ws ls → length (bits b ++ joined_bits ws ks) ≡ length (drop c (bits a) ++ joined_bits ws ls) → length ks + length ls < n → Reach (d + hamming (bits b ++ joined_bits ws ks) (drop c (bits a) ++ joined_bits ws ls))

  -- the same from the tail itself, which meets the next word
  on_tail : (n : ℕ) → Finishes n → (d i c : ℕ) (a : Codeword) → Path (tails ws) (tail_place i c) d → slice_get ws i ≡ Some a → 0 < c → c < a.len → (ks ls : List ℕ) → Sequence ws ks → Sequence ws ls → length (joined_bits ws ks) ≡ length (drop c (bits a) ++ joined_bits ws ls) → length ks + length ls < suc n → Reach (d + hamming (joined_bits ws ks) (drop c (bits a) ++ joined_bits ws ls))
  on_tail n finishes d i c a path at_i some less [] ls in-k in-l eq lt =
      let sum = length-append (drop c (bits a)) (joined_bits ws ls) in
      let cut = length-drop c (bits a) in
      let all = (long i a at_i).1 in
      absurd (omega arith)
  on_tail n finishes d i c a path at_i some less (y ∷ ks) ls in-k in-l eq lt =
      let found = nth_there ws y (λ ge. omega (arith, in-k.0)) in
      let b = found.0 in
      let at_j = found.1 in
      let there : bits_at ws y ≡ bits b = bits_there ws y b at_j in
      let eq' : length (bits b ++ joined_bits ws ks) ≡ length (drop c (bits a) ++ joined_bits ws ls) = ap (λ (l : List Bool). length (l ++ joined_bits ws ks)) (sym there) ∙ eq in
      let edge = later_edge ws i c y a b some less (s.formed i a at_i).1 at_i at_j in
      subst (λ (l : List Bool). Reach (d + hamming (l ++ joined_bits ws ks) (drop c (bits a) ++ joined_bits ws ls))) (sym there) (finishes (tail_place i c) d i c y a b path edge at_i at_j less ks ls in-k.1 in-l eq' (omega arith))

  finishes_way : (n : ℕ) → Finishes n → (d i c j : ℕ) (a b : Codeword) (r : ℕ) → Leads i c (a.len - c) j b.len r → Path (tails ws) r (d + hamming (drop c (bits a)) (bits b)) → slice_get ws i ≡ Some a → slice_get ws j ≡ Some b → c < a.len → (ks ls : List ℕ) → Sequence ws ks → Sequence ws ls → length (bits b ++ joined_bits ws ks) ≡ length (drop c (bits a) ++ joined_bits ws ls) → length ks + length ls < suc n → Reach (d + hamming (bits b ++ joined_bits ws ks) (drop c (bits a) ++ joined_bits ws ls))
  finishes_way n finishes d i c j a b r (word_longer shorter) path at_i at_j less ks ls in-k in-l eq lt =
      let t = drop c (bits a) in
      let w = bits b in
      let K = joined_bits ws ks in
      let L = joined_bits ws ls in
      let left = a.len - c in
      let long_t : length t ≡ left = length-drop c (bits a) ∙ ap (λ (x : ℕ). x - c) (long i a at_i).1 in
      let long_w = (long j b at_j).1 in
      let gone : drop (length w) t ≡ [] = drop_all (length w) t (omega arith) in
      let whole = length-append w K in
      let whole' = length-append t L in
      let rest = length-append (drop left w) K in
      let rest' = length-drop left w in
      let cut : hamming (w ++ K) (t ++ L) ≡ hamming t w + hamming L (drop left w ++ K) =
      hamming_cut t w K L ∙ ap (λ (x : ℕ). hamming t w + hamming (drop x w ++ K) (drop (length w) t ++ L)) long_t ∙ ap (λ (l : List Bool). hamming t w + hamming (drop left w ++ K) (l ++ L)) gone ∙ ap (λ (x : ℕ). hamming t w + x) (hamming_sym (drop left w ++ K) L) in
      reach_most (d + hamming t w + hamming L (drop left w ++ K)) (d + hamming (w ++ K) (t ++ L)) (omega arith)
      (on_tail n finishes (d + hamming t w) j left b path at_j (omega arith) shorter ls ks in-l in-k (omega arith) (omega arith))
  finishes_way n finishes d i c j a b r (tail_longer shorter) path at_i at_j less ks ls in-k in-l eq lt =
      let t = drop c (bits a) in
      let w = bits b in
      let K = joined_bits ws ks in
      let L = joined_bits ws ls in
      let n' = b.len in
      let long_a = (long i a at_i).1 in
      let long_t : length t ≡ a.len - c = length-drop c (bits a) ∙ ap (λ (x : ℕ). x - c) long_a in
      let long_w = long j b at_j in
      let gone : drop (length t) w ≡ [] = drop_all (length t) w (omega arith) in
      let tail : drop (length w) t ≡ drop (c + n') (bits a) = ap (λ (x : ℕ). drop x t) long_w.1 ∙ drop-drop n' c (bits a) in
      let whole = length-append w K in
      let whole' = length-append t L in
      let rest = length-append (drop (c + n') (bits a)) L in
      let rest' = length-drop (c + n') (bits a) in
      let cut : hamming (w ++ K) (t ++ L) ≡ hamming t w + hamming K (drop (c + n') (bits a) ++ L) =
      hamming_cut t w K L ∙ ap (λ (l : List Bool). hamming t w + hamming (l ++ K) (drop (length w) t ++ L)) gone ∙ ap (λ (l : List Bool). hamming t w + hamming K (l ++ L)) tail in
      reach_most (d + hamming t w + hamming K (drop (c + n') (bits a) ++ L)) (d + hamming (w ++ K) (t ++ L)) (omega arith)
      (on_tail n finishes (d + hamming t w) i (c + n') a path at_i (omega arith) (omega arith) ks ls in-k in-l (omega arith) lt)
  finishes_way n finishes d i c j a b r (equal same) path at_i at_j less ks ls in-k in-l eq lt =
      let cut = hamming_cut (drop c (bits a)) (bits b) (joined_bits ws ks) (joined_bits ws ls) in
      (d + hamming (drop c (bits a)) (bits b), path, omega arith)

  finishes : (n : ℕ) → Finishes n
  finishes zero p d i c j a b path edge at_i at_j less ks ls in-k in-l eq lt = absurd (omega arith)
  finishes (suc n) p d i c j a b path edge at_i at_j less ks ls in-k in-l eq lt =
      finishes_way n (finishes n) d i c j a b (compared i a c j b).0 (leads_to i c (a.len - c) j b.len) (on path edge) at_i at_j less ks ls in-k in-l eq lt

  some_bits : (k : ℕ) (ks : List ℕ) → k < length ws → 0 < length (joined_bits ws (k ∷ ks))
  some_bits k ks lt =
      let found = nth_there ws k (λ ge. omega arith) in
      let some = (long k found.0 found.1).0 in
      let there = ap length (bits_there ws k found.0 found.1) in
      let sum = length-append (bits_at ws k) (joined_bits ws ks) in
      omega arith

  -- two sequences that begin with words x and y, x having the lower number
  parts : (x y : ℕ) (ks ls : List ℕ) → x < y → Sequence ws (x ∷ ks) → Sequence ws (y ∷ ls) → length (joined_bits ws (x ∷ ks)) ≡ length (joined_bits ws (y ∷ ls)) → Reach (distance ws (y ∷ ls) (x ∷ ks))
  parts x y ks ls lt in-k in-l eq =
      let one = nth_there ws x (λ ge. omega (arith, in-k.0)) in
      let other = nth_there ws y (λ ge. omega (arith, in-l.0)) in
      let a = one.0 in
      let b = other.0 in
      let there_a = bits_there ws x a one.1 in
      let there_b = bits_there ws y b other.1 in
      let eq' : length (bits b ++ joined_bits ws ls) ≡ length (bits a ++ joined_bits ws ks) = ap (λ (l : List Bool). length (l ++ joined_bits ws ls)) (sym there_b) ∙ sym eq ∙ ap (λ (l : List Bool). length (l ++ joined_bits ws ks)) there_a in
      let some = (s.formed x a one.1).0 in
      let whole : hamming (bits b ++ joined_bits ws ls) (bits a ++ joined_bits ws ks) ≡ distance ws (y ∷ ls) (x ∷ ks) = ap (λ (l : List Bool). hamming (l ++ joined_bits ws ls) (bits a ++ joined_bits ws ks)) (sym there_b) ∙ ap (λ (l : List Bool). hamming (bits_at ws y ++ joined_bits ws ls) (l ++ joined_bits ws ks)) (sym there_a) in
      reach_most (0 + hamming (bits b ++ joined_bits ws ls) (bits a ++ joined_bits ws ks)) (distance ws (y ∷ ls) (x ∷ ks)) (omega arith)
      (finishes (suc (length ls + length ks)) start_place 0 x 0 y a b here (first_edge ws x y a b lt one.1 other.1) one.1 other.1 (omega arith) ls ks in-l.1 in-k.1 eq' (omega arith))

  -- the two sequences after the words that they share
  meet : (ks ls : List ℕ) → Sequence ws ks → Sequence ws ls → (ks ≡ ls → ⊥) → length (joined_bits ws ks) ≡ length (joined_bits ws ls) → Reach (distance ws ks ls)
  meet [] [] in-k in-l differ eq = absurd (differ refl)
  meet [] (y ∷ ls) in-k in-l differ eq = let some = some_bits y ls in-l.0 in absurd (omega arith)
  meet (x ∷ ks) [] in-k in-l differ eq = let some = some_bits x ks in-k.0 in absurd (omega arith)
  meet (x ∷ ks) (y ∷ ls) in-k in-l differ eq =
      ⊎_elim
      (λ same.
      let shared : bits_at ws x ≡ bits_at ws y = ap (bits_at ws) same in
      let sum = length-append (bits_at ws x) (joined_bits ws ks) in
      let sum' = length-append (bits_at ws y) (joined_bits ws ls) in
      let alike = ap length shared in
      let whole : distance ws (x ∷ ks) (y ∷ ls) ≡ distance ws ks ls = ap (λ (l : List Bool). hamming (bits_at ws x ++ joined_bits ws ks) (l ++ joined_bits ws ls)) (sym shared) ∙ hamming_shared (bits_at ws x) (joined_bits ws ks) (joined_bits ws ls) in
      reach_most (distance ws ks ls) (distance ws (x ∷ ks) (y ∷ ls)) (omega arith) (meet ks ls in-k.1 in-l.1 (λ e. differ (cc)) (omega arith)))
      (λ apart.
      ⊎_elim
      (λ lt.
      let turn = hamming_sym (joined_bits ws (y ∷ ls)) (joined_bits ws (x ∷ ks)) in
      reach_most (distance ws (y ∷ ls) (x ∷ ks)) (distance ws (x ∷ ks) (y ∷ ls)) (omega arith) (parts x y ks ls lt in-k in-l eq))
      (λ lt. parts y x ls ks lt in-l in-k (sym eq))
      apart)
      (cases_order x y)

  pub paths_are_pairs : PathsArePairs ws
  paths_are_pairs =
      record {
        to_tail = λ k c d some few path. leads k c d some few (stands path);
        to_finish = λ d path. meets d (stands path);
        from_rivals = λ ks ls r. meet ks ls r.one r.other r.different r.equally_long;
      }

  -- the limit of a search is the free distance
  pub free : (d : ℕ) → LeastCost (tails ws) finish_place d → FreeDistance ws d
  free d limit =
      record {
        attained = meets d (stands limit.path);
        least = λ ks ls r.
            let way = meet ks ls r.one r.other r.different r.equally_long in
            let low = limit.least way.0 way.1 in
            omega (arith, way.2);
      }

  -- two words can be sent in either order, so there is a path
  pub path_there : 2 ≤ length ws → (d : ℕ) × Path (tails ws) finish_place d
  path_there two =
      let zero_in : 0 < length ws = omega arith in
      let one_in : 1 < length ws = omega arith in
      let a = bits_at ws 0 in
      let b = bits_at ws 1 in
      let eq : length (a ++ (b ++ [])) ≡ length (b ++ (a ++ [])) =
      let p = length-append a (b ++ []) in
      let q = length-append b (a ++ []) in
      let r = length-append a [] in
      let t = length-append b [] in
      omega arith in
      let way = meet (0 ∷ 1 ∷ []) (1 ∷ 0 ∷ []) (zero_in, (one_in, tt)) (one_in, (zero_in, tt)) (λ e. let z : ◌≡◌ {A = ℕ} 0 1 = cc in omega arith) eq in
      (way.0, way.1)
