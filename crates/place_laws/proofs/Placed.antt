-- Bytes among which others were put: what stands there then, and before and behind.
use Rattle.std.proofs.Common.{◌≡◌, ℕ, ◌+◌, ◌-◌, ◌≤◌, List, ◌++◌, length, take, drop, sym, ap, ◌∙◌, append_assoc, arith, length-take-le}
use Rattle.std.proofs.lemmas.List.{drop_at, drop-drop, drop-take, length-append, take_at, take-take}
use Rattle.std.proofs.lemmas.Slice.{drop-append-drop}
use Rattle.std.proofs.Math.Seq.{take-append_seam}
use Rattle.source_meaning.proofs.Aggregates.{placed}

module _ (offset : ℕ) (part bytes : List ℕ) (within : offset + length part ≤ length bytes) where
  -- what follows the bytes before the part
  abbrev following : List ℕ
  following = part ++ drop (offset + length part) bytes

  before-long : length (take offset bytes) ≡ offset
  before-long = length-take-le offset bytes (omega (arith, within))

  pub placed-there : take (length part) (drop offset (placed offset part bytes)) ≡ part
  placed-there =
      ap (take (length part)) (drop_at (take offset bytes) following offset before-long)
      ∙ take-append_seam part (drop (offset + length part) bytes)

  pub placed-first : take offset (placed offset part bytes) ≡ take offset bytes
  placed-first = take_at (take offset bytes) following offset before-long

  up-to-long : length (take offset bytes ++ part) ≡ offset + length part
  up-to-long = omega (arith, length-append (take offset bytes) part, before-long)

  pub placed-last : drop (offset + length part) (placed offset part bytes) ≡ drop (offset + length part) bytes
  placed-last =
      ap (drop (offset + length part)) (sym (append_assoc (take offset bytes) part (drop (offset + length part) bytes)))
      ∙ drop-append-drop (offset + length part) bytes (take offset bytes ++ part) (offset + length part) (omega arith) up-to-long

-- bytes that end before an offset stand among those up to it
pub among-first : (at size offset : ℕ) (bytes : List ℕ) → at + size ≤ offset → take size (drop at bytes) ≡ take size (drop at (take offset bytes))
among-first at size offset bytes before =
    let rest = offset - at in
    let whole : at + rest ≡ offset = omega (arith, before) in
    sym (ap (λ n. take size (drop at (take n bytes))) (sym whole)
    ∙ ap (take size) (drop-take at rest bytes)
    ∙ take-take size rest (drop at bytes) (omega (arith, before)))

-- bytes that begin behind an end stand among those from it on
pub among-last : (at end : ℕ) (bytes : List ℕ) → end ≤ at → drop at bytes ≡ drop (at - end) (drop end bytes)
among-last at end bytes behind =
    let whole : end + (at - end) ≡ at = omega (arith, behind) in
    ap (λ n. drop n bytes) (sym whole) ∙ sym (drop-drop (at - end) end bytes)
