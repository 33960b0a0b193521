-- The bytes of a table's words, one word after the other.
use Rattle.std.proofs.Common.{◌≡◌, ℕ, ◌+◌, ◌<◌, List, [], ◌∷◌, ◌++◌, length, take, Some, sym, ap, ◌∙◌, append_assoc, append-nil, add-zero, zero-add, arith}
use Rattle.std.specs.List.{slice_get}
use Rattle.std.proofs.lemmas.List.{length-take-le}
use Rattle.codetable.specs.declared.word.Codeword.{Codeword}
use Rattle.codetable.proofs.Stored.{nth_within, take_nth}
use Rattle.transfer.specs.Format.{bytes_of}
use Rattle.transfer.proofs.Written.{bytes_append}
use Rattle.sender.specs.Images.{entry_words, table_words}

table_push : (j : ℕ) (ws : List Codeword) (w : Codeword) → table_words j (ws ++ w ∷ []) ≡ table_words j ws ++ entry_words (j + length ws) w
table_push j [] w = append-nil (entry_words j w) ∙ ap (λ (i : ℕ). entry_words i w) (sym (add-zero j))
table_push j (v ∷ ws) w =
    ap (λ (l : List ℕ). entry_words j v ++ l) (table_push (j + 1) ws w ∙ ap (λ (i : ℕ). table_words (j + 1) ws ++ entry_words i w) (omega arith))
    ∙ sym (append_assoc (entry_words j v) (table_words (j + 1) ws) (entry_words (j + length (v ∷ ws)) w))

-- one word more
pub table_more : (ws : List Codeword) (k : ℕ) (w : Codeword) (before after : List ℕ) → slice_get ws k ≡ Some w → before ≡ bytes_of (table_words 0 (take k ws)) → after ≡ before ++ bytes_of (entry_words k w) → after ≡ bytes_of (table_words 0 (take (k + 1) ws))
table_more ws k w before after there eb e =
    let within : k < length ws = nth_within ws k w there in
    let count : 0 + length (take k ws) ≡ k = zero-add (length (take k ws)) ∙ length-take-le k ws (omega arith) in
    e
    ∙ ap (λ (l : List ℕ). l ++ bytes_of (entry_words k w)) eb
    ∙ ap (λ (i : ℕ). bytes_of (table_words 0 (take k ws)) ++ bytes_of (entry_words i w)) (sym count)
    ∙ sym (bytes_append (table_words 0 (take k ws)) (entry_words (0 + length (take k ws)) w))
    ∙ ap bytes_of (sym (table_push 0 (take k ws) w))
    ∙ ap (λ (l : List Codeword). bytes_of (table_words 0 l)) (sym (take_nth ws k w there))
