-- Bytes that are written to a sink.
use Rattle.std.proofs.Common.{◌≡◌, ℕ, ◌+◌, ◌≤◌, List, ◌++◌, Option, None, Some, length, take, drop, option_map, refl, sym, subst, append_assoc, length-drop, arith}
use Rattle.std.proofs.Math.Seq.{take-add}
use Rattle.std.proofs.lemmas.List.{take_all}

-- after `n` bytes, `k` more were written
pub more_written : (first written written' : Option (List ℕ)) (bytes part : List ℕ) (n k : ℕ) → part ≡ drop n bytes →
    written ≡ option_map (λ before. before ++ take n bytes) first → written' ≡ option_map (λ before. before ++ take k part) written →
    written' ≡ option_map (λ before. before ++ take (n + k) bytes) first
more_written None written written' bytes part n k rest so_far more = rw (more, so_far) refl
more_written (Some before) written written' bytes part n k rest so_far more =
    rw (more, so_far, rest, append_assoc before (take n bytes) (take k (drop n bytes)), sym (take-add n k bytes)) refl

-- `n` bytes and `k` more are still within the whole
pub still_within : (bytes part : List ℕ) (n k : ℕ) → part ≡ drop n bytes → n ≤ length bytes → k ≤ length part → n + k ≤ length bytes
still_within bytes part n k rest within fits =
    let fits : k ≤ length (drop n bytes) = subst (λ (some : List ℕ). k ≤ length some) rest fits in
    omega (arith, fits, within, length-drop n bytes)

-- all bytes are written
pub all_written : (first written : Option (List ℕ)) (bytes : List ℕ) (n : ℕ) → length bytes ≤ n →
    written ≡ option_map (λ before. before ++ take n bytes) first → written ≡ option_map (λ before. before ++ bytes) first
all_written first written bytes n past so_far =
    subst (λ (part : List ℕ). written ≡ option_map (λ before. before ++ part) first) (take_all n bytes past) so_far
