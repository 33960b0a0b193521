-- A mask of j ones above k zeros picks a field out of a word.
use Rattle.std.proofs.Common.{◌≡◌, ℕ, ◌-◌, ◌*◌, ◌/◌, ◌%◌, ◌^◌, add-zero, arith}
use lib.Bits.{bit_and}
use Rattle.std.proofs.lemmas.Nat.{pow_pos, shr_split, and_block, and_mask, and_le_r}

pub and_field : (w j k : ℕ) → bit_and w ((2 ^ j - 1) * 2 ^ k) ≡ w / 2 ^ k % 2 ^ j * 2 ^ k
and_field w j k =
    let blocks = and_block k (w / 2 ^ k) (2 ^ j - 1) (w % 2 ^ k) 0 (omega (arith, pow_pos k)) (pow_pos k) in
    let fields = rw (shr_split w k, and_mask (w / 2 ^ k) j, add-zero) at blocks in
    omega (arith, fields, and_le_r (w % 2 ^ k) 0)
