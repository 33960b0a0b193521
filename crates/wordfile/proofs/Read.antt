-- What a word says, from its bits: the one entry of good form that stands for it, if there is one.
use Rattle.std.proofs.Common.{◌≡◌, ℕ, zero, suc, ◌/◌, ◌%◌, ◌^◌, ◌<◌, ℤ, pos, negsuc, Ok, Err, inl, sym, refl, ap, ◌∙◌, subst, arith, w8, SFits, to_z, of_z}
use lib.Bits.{bit_and}
use Rattle.std.proofs.lemmas.Nat.{and_mask, shr-shr}
use Rattle.std.proofs.lemmas.Int.{ints, to_z-of_z, of_z-to_z}
use Rattle.refusal.specs.declared.FileFault.TheVariants.{BadForm}
use Rattle.wordfile.specs.declared.Kind.{Kind}
use Rattle.wordfile.specs.declared.Kind.TheVariants as kind
use Rattle.wordfile.specs.declared.Entry.{Entry}
use Rattle.wordfile.specs.declared.Entry.TheVariants.{End, Word, Weigh, Drop, Bit, Wipe, Load, Undo}
use Rattle.wordfile.specs.Entries.{kind_number, kind_of_entry, twos_complement, entry_bits, entry_word, InByte, Formed, Says, Reads, zero_bits}
use Rattle.wordfile.proofs.Masks.{and_field}

-- the kind of a number
numbered : ℕ → Kind
numbered zero = kind.End
numbered (suc zero) = kind.Word
numbered (suc (suc zero)) = kind.Weigh
numbered (suc (suc (suc zero))) = kind.Drop
numbered (suc (suc (suc (suc zero)))) = kind.Bit
numbered (suc (suc (suc (suc (suc zero))))) = kind.Wipe
numbered (suc (suc (suc (suc (suc (suc zero)))))) = kind.Load
numbered (suc (suc (suc (suc (suc (suc (suc n))))))) = kind.Undo

numbered_back : (k : Kind) → numbered (kind_number k) ≡ k
unfolding numbered
numbered_back kind.End = refl
numbered_back kind.Word = refl
numbered_back kind.Weigh = refl
numbered_back kind.Drop = refl
numbered_back kind.Bit = refl
numbered_back kind.Wipe = refl
numbered_back kind.Load = refl
numbered_back kind.Undo = refl

same_kind : (a b : Kind) → kind_number a ≡ kind_number b → a ≡ b
same_kind a b e = sym (numbered_back a) ∙ ap numbered e ∙ numbered_back b

-- two's complement, there and back
complement_is : (v : ℤ) → twos_complement v ≡ of_z w8 v
complement_is (pos n) = refl
complement_is (negsuc n) = refl

complement_below : (v : ℤ) → InByte v → twos_complement v < 2 ^ 8
complement_below (pos n) h = omega arith
complement_below (negsuc n) h = omega arith

fits : (v : ℤ) → InByte v → SFits w8 v
fits (pos n) h = record { sfits = h }
fits (negsuc n) h = record { sfits = h }

signed_back : (v : ℤ) → InByte v → to_z w8 (twos_complement v) ≡ v
signed_back v h = ap (to_z w8) (complement_is v) ∙ to_z-of_z w8 v (fits v h)

unsigned_back : (n : ℕ) → n < 2 ^ 8 → twos_complement (to_z w8 n) ≡ n
unsigned_back n h = complement_is (to_z w8 n) ∙ of_z-to_z w8 n h

signed_in : (n : ℕ) (v : ℤ) → n < 2 ^ 8 → to_z w8 n ≡ v → InByte v
signed_in n (pos m) h e = omega (arith, ints)
signed_in n (negsuc m) h e = omega (arith, ints)

-- the entry that the bits of a word make at a kind
abbrev pub made : Kind → ℕ → Entry
made kind.End w = End
made kind.Word w = Word (w / 2 ^ 24 % 2 ^ 5) (w % 2 ^ 24)
made kind.Weigh w = Weigh (w / 2 ^ 24 % 2 ^ 5) (w % 2 ^ 16)
made kind.Drop w = Drop
made kind.Bit w = Bit (to_z w8 (w % 2 ^ 8))
made kind.Wipe w = Wipe
made kind.Load w = Load (w % 2 ^ 6)
made kind.Undo w = Undo

-- an entry from its own word
made_back : (e : Entry) → Formed e → made (kind_of_entry e) (entry_word e) ≡ e
made_back End f = refl
made_back (Word n v) f =
    let a : entry_word (Word n v) / 2 ^ 24 % 2 ^ 5 ≡ n = omega arith in
    let b : entry_word (Word n v) % 2 ^ 24 ≡ v = omega arith in
    cc
made_back (Weigh k w) f =
    let a : entry_word (Weigh k w) / 2 ^ 24 % 2 ^ 5 ≡ k = omega arith in
    let b : entry_word (Weigh k w) % 2 ^ 16 ≡ w = omega arith in
    cc
made_back Drop f = refl
made_back (Bit v) f =
    let low : entry_word (Bit v) % 2 ^ 8 ≡ twos_complement v = omega (arith, complement_below v f) in
    ap Bit (ap (to_z w8) low ∙ signed_back v f)
made_back Wipe f = refl
made_back (Load n) f = ap Load (omega arith)
made_back Undo f = refl

bits_below : (e : Entry) → Formed e → entry_bits e < 2 ^ 29
bits_below End f = omega arith
bits_below (Word n v) f = omega arith
bits_below (Weigh k w) f = omega arith
bits_below Drop f = omega arith
bits_below (Bit v) f = omega (arith, complement_below v f)
bits_below Wipe f = omega arith
bits_below (Load n) f = omega arith
bits_below Undo f = omega arith

-- where an entry's kind has a zero, its word has one
clear_bits : (e : Entry) → Formed e → bit_and (entry_word e) (zero_bits (kind_of_entry e)) ≡ 0
clear_bits End f = refl
clear_bits (Word n v) f = and_mask (entry_word (Word n v)) 0 ∙ omega arith
clear_bits (Weigh k w) f = and_field (entry_word (Weigh k w)) 8 16 ∙ omega arith
clear_bits Drop f = refl
clear_bits (Bit v) f = and_field (entry_word (Bit v)) 21 8 ∙ omega (arith, complement_below v f)
clear_bits Wipe f = refl
clear_bits (Load n) f = and_field (entry_word (Load n)) 23 6 ∙ omega arith
clear_bits Undo f = refl

-- the entry that a word's bits make at the word's kind
module _ (k : Kind) (w : ℕ) (is : kind_number k ≡ w / 2 ^ 29) where
  kind_said : (e : Entry) → Says w e → k ≡ kind_of_entry e
  kind_said e s = same_kind k (kind_of_entry e) (omega (arith, s.stands, bits_below e s.formed))

  -- a word that says something is clear where its kind has a zero
  pub said_clear : (e : Entry) → Says w e → bit_and w (zero_bits k) ≡ 0
  said_clear e s =
      ap (λ (x : Kind). bit_and w (zero_bits x)) (kind_said e s)
      ∙ ap (λ (n : ℕ). bit_and n (zero_bits (kind_of_entry e))) (sym s.stands)
      ∙ clear_bits e s.formed

  -- whatever it says is what its bits make
  pub said_made : (e : Entry) → Says w e → made k w ≡ e
  said_made e s =
      ap (λ (x : Kind). made x w) (kind_said e s)
      ∙ ap (made (kind_of_entry e)) (sym s.stands)
      ∙ made_back e s.formed

-- and a word that is clear where its kind has a zero says that
pub says_made : (k : Kind) (w : ℕ) → kind_number k ≡ w / 2 ^ 29 → bit_and w (zero_bits k) ≡ 0 → Says w (made k w)
says_made kind.End w is z = record { formed = tt; stands = omega (arith, and_mask w 29) }
says_made kind.Word w is z = record { formed = (omega arith, omega arith); stands = omega (arith, shr-shr w 24 5) }
says_made kind.Weigh w is z = record { formed = (omega arith, omega arith); stands = omega (arith, and_field w 8 16, shr-shr w 16 8, shr-shr w 24 5) }
says_made kind.Drop w is z = record { formed = tt; stands = omega (arith, and_mask w 29) }
says_made kind.Bit w is z =
    record {
      formed = signed_in (w % 2 ^ 8) (to_z w8 (w % 2 ^ 8)) (omega arith) refl;
      stands = omega (arith, and_field w 21 8, shr-shr w 8 21, unsigned_back (w % 2 ^ 8) (omega arith));
    }
says_made kind.Wipe w is z = record { formed = tt; stands = omega (arith, and_mask w 29) }
says_made kind.Load w is z = record { formed = omega arith; stands = omega (arith, and_field w 23 6, shr-shr w 6 23) }
says_made kind.Undo w is z = record { formed = tt; stands = omega (arith, and_mask w 29) }

-- what is read of a word of kind k, where z is the mask of that kind
module _ (w z : ℕ) (k : Kind) (is : kind_number k ≡ w / 2 ^ 29) (mask : z ≡ zero_bits k) where
  pub refused : (bit_and w z ≡ 0 → ⊥) → Reads w (Err BadForm)
  refused stray =
      let none : (e : Entry) → Says w e → ⊥ = λ e s. stray (ap (bit_and w) mask ∙ said_clear k w is e s) in
      record { answer = (inl (none, refl), tt); unique = λ e s. absurd (none e s) }

  -- at the arm of the kind v
  module _ (v : Kind) (clear : bit_and w z ≡ 0) (arm : k ≡ v) (e : Entry) (same : e ≡ made v w) where
    whole : e ≡ made k w
    whole = same ∙ ap (λ (x : Kind). made x w) (sym arm)

    pub accepted : Reads w (Ok e)
    accepted =
        let says : Says w e = subst (Says w) (sym whole) (says_made k w is (ap (bit_and w) (sym mask) ∙ clear)) in
        record { answer = ((λ none. none e says, tt), says); unique = λ x s. ap Ok (whole ∙ said_made k w is x s) }

-- the parts of an entry by masks and shifts
pub masked_word : (w : ℕ) → Word (bit_and (w / 2 ^ 24) 0x1f) (bit_and w 0xffffff) ≡ made kind.Word w
masked_word w = cc (and_mask (w / 2 ^ 24) 5, and_mask w 24)

pub masked_weigh : (w : ℕ) → Weigh (bit_and (w / 2 ^ 24) 0x1f) (bit_and w 0xffff) ≡ made kind.Weigh w
masked_weigh w = cc (and_mask (w / 2 ^ 24) 5, and_mask w 16)

pub masked_bit : (w : ℕ) (v : ℤ) → v ≡ to_z w8 (bit_and w 0xff) → Bit (to_z w8 (of_z w8 v)) ≡ made kind.Bit w
masked_bit w v is =
    let low = is ∙ ap (to_z w8) (and_mask w 8) in
    ap Bit (ap (λ (z : ℤ). to_z w8 (of_z w8 z)) low ∙ ap (to_z w8) (of_z-to_z w8 (w % 2 ^ 8) (omega arith)))

pub masked_load : (w : ℕ) → Load (bit_and w 0x3f) ≡ made kind.Load w
masked_load w = ap Load (and_mask w 6)
