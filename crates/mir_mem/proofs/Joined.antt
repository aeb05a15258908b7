-- The bytes of a view, and its pieces.
use Rattle.std.proofs.Common.{◌≡◌, ℕ, zero, suc, ◌+◌, ◌≤◌, List, [], ◌∷◌, ◌++◌, length, take, Some, refl, sym, ap, ◌∙◌, arith, append-nil, append_assoc, length-append}
use Rattle.std.specs.Prelude.{slice_get}
use Rattle.std.specs.List.{concat}
use Rattle.mir_mem.specs.Views.{pieces_of}

-- the bytes as pieces are the bytes
pub concat_pieces_of : (bytes : List ℕ) → concat (pieces_of bytes) ≡ bytes
concat_pieces_of [] = refl
concat_pieces_of (byte ∷ bytes) = append-nil (byte ∷ bytes)

-- a piece that is the only one has all bytes
pub concat_of_one : (pieces : List (List ℕ)) (piece : List ℕ) → length pieces ≡ 1 → slice_get pieces 0 ≡ Some piece → piece ≡ concat pieces
concat_of_one [] piece one is = absurd (omega (arith, one))
concat_of_one (first ∷ []) piece one is = let same : first ≡ piece = cc in sym same ∙ sym (append-nil first)
concat_of_one (first ∷ second ∷ rest) piece one is = absurd (omega (arith, one))

-- one more piece behind those before a place
pub concat-next : (pieces : List (List ℕ)) (i : ℕ) (piece : List ℕ) → slice_get pieces i ≡ Some piece → concat (take (suc i) pieces) ≡ concat (take i pieces) ++ piece
concat-next [] i piece is = cc
concat-next (first ∷ rest) zero piece is =
    let same : first ≡ piece = cc in
    append-nil first ∙ same
concat-next (first ∷ rest) (suc i) piece is =
    ap (λ (bytes : List ℕ). first ++ bytes) (concat-next rest i piece is) ∙ sym (append_assoc first (concat (take i rest)) piece)

-- and it lies within all bytes
pub concat-fits : (pieces : List (List ℕ)) (i : ℕ) (piece : List ℕ) → slice_get pieces i ≡ Some piece → length (concat (take i pieces)) + length piece ≤ length (concat pieces)
concat-fits [] i piece is = cc
concat-fits (first ∷ rest) zero piece is =
    let same : first ≡ piece = cc in
    let long : length (first ++ concat rest) ≡ length first + length (concat rest) = length-append first (concat rest) in
    let size : length first ≡ length piece = ap length same in
    omega arith
concat-fits (first ∷ rest) (suc i) piece is =
    let inner = concat-fits rest i piece is in
    let before : length (first ++ concat (take i rest)) ≡ length first + length (concat (take i rest)) = length-append first (concat (take i rest)) in
    let long : length (first ++ concat rest) ≡ length first + length (concat rest) = length-append first (concat rest) in
    omega arith
