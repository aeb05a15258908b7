-- Bytes that are read from a source.
use Rattle.std.proofs.Common.{◌≡◌, ℕ, suc, ◌+◌, ◌<◌, ◌≤◌, List, [], ◌∷◌, ◌++◌, Option, None, Some, length, take, drop, option_map, IfSome, refl, sym, ap, subst, ◌∙◌, append_assoc, length-append, arith}
use Rattle.std.proofs.lemmas.List.{take-append-drop, append-nil, drop_at}
use Rattle.mirconst_input.specs.Input.{Moves, most_bytes, IsReadToEnd, Takes, TakesFew}
use Rattle.mirconst_input.specs.Refusals.{IsTooLong}

-- one read moves the bytes that it took
pub piece_moves : (taken taken' part : List ℕ) (left left' : Option (List ℕ)) (n : ℕ) →
    IfSome left (λ all. part ≡ take n all) → left' ≡ option_map (drop n) left → taken' ≡ taken ++ part → Moves taken left taken' left'
piece_moves taken taken' part None left' n is rest more = rw rest refl
piece_moves taken taken' part (Some all) left' n is rest more =
    rw (rest, more, is, append_assoc taken (take n all) (drop n all), take-append-drop n all) refl

-- a read of no bytes means that none is left
pub ends : (left left' : Option (List ℕ)) (n : ℕ) → IfSome left (λ all. all ≡ []) → left' ≡ option_map (drop n) left →
    n ≡ 0 → IfSome left' (λ rest. rest ≡ [])
ends None left' n none is zero = rw is tt
ends (Some all) left' n none is zero = rw (is, zero, none) refl

-- where no byte is left, the bytes that were read are all that there were
all_moved : (bytes : List ℕ) (left left' : Option (List ℕ)) → Moves [] left bytes left' → IfSome left' (λ rest. rest ≡ []) →
    IfSome left (λ all. all ≡ bytes)
all_moved bytes None left' moves none = tt
all_moved bytes (Some all) None moves none = absurd cc
all_moved bytes (Some all) (Some rest) moves none =
    let same : all ≡ bytes ++ rest = cc in
    same ∙ (rw none (append-nil bytes))

none_left : (bytes : List ℕ) (left left' : Option (List ℕ)) → Moves [] left bytes left' → IfSome left' (λ rest. rest ≡ []) →
    IfSome left (λ all. left' ≡ Some [])
none_left bytes None left' moves none = tt
none_left bytes (Some all) None moves none = absurd cc
none_left bytes (Some all) (Some rest) moves none = rw none refl

pub read_to_end : (bytes : List ℕ) (left left' : Option (List ℕ)) → Moves [] left bytes left' → IfSome left' (λ rest. rest ≡ []) →
    length bytes ≤ most_bytes → IsReadToEnd left left' bytes
read_to_end bytes left left' moves none few =
    record { whole = all_moved bytes left left' moves none; ended = none_left bytes left left' moves none; few = few }

-- the bytes that were read are the front of those that there were
pub takes_few : (bytes : List ℕ) (left left' : Option (List ℕ)) → Moves [] left bytes left' → length bytes ≤ 67108865 → TakesFew left left'
takes_few bytes None None moves few = record { count = 0; few = omega arith; taken = refl }
takes_few bytes None (Some rest) moves few = absurd cc
takes_few bytes (Some all) None moves few = absurd cc
takes_few bytes (Some all) (Some rest) moves few =
    let same : all ≡ bytes ++ rest = cc in
    record { count = length bytes; few = few; taken = ap Some (sym (ap (drop (length bytes)) same ∙ drop_at bytes rest (length bytes) refl)) }

-- a call that reads nothing takes nothing
pub takes_none : (most : ℕ) (left left' : Option (List ℕ)) → left' ≡ left → Takes most left left'
takes_none most None left' same = record { count = 0; few = omega arith; taken = same }
takes_none most (Some all) left' same = record { count = 0; few = omega arith; taken = same }

-- one read takes at most a piece
pub takes_piece : (most n : ℕ) (left left' : Option (List ℕ)) → n ≤ most → left' ≡ option_map (drop n) left → Takes most left left'
takes_piece most n left left' few taken = record { count = n; few = few; taken = taken }

dropped : (bytes rest : List ℕ) (n : ℕ) → drop (length bytes + n) (bytes ++ rest) ≡ drop n rest
dropped [] rest n = let plain : 0 + n ≡ n = omega arith in ap (λ k. drop k rest) plain
dropped (byte ∷ bytes) rest n = let more : suc (length bytes) + n ≡ suc (length bytes + n) = omega arith in ap (λ k. drop k (byte ∷ bytes ++ rest)) more ∙ dropped bytes rest n

-- reads so far and one more read take at most the sum
pub takes_more : (bytes : List ℕ) (most : ℕ) (left middle left' : Option (List ℕ)) → Moves [] left bytes middle → Takes most middle left' → length bytes + most ≤ 67108865 →
    TakesFew left left'
takes_more bytes most None None left' moves more few = record { count = 0; few = omega arith; taken = more.taken }
takes_more bytes most None (Some rest) left' moves more few = absurd cc
takes_more bytes most (Some all) None left' moves more few = absurd cc
takes_more bytes most (Some all) (Some rest) left' moves more few =
    let same : all ≡ bytes ++ rest = cc in
    let small = more.few in
    record {
      count = length bytes + more.count;
      few = omega arith;
      taken = more.taken ∙ ap Some (sym (ap (drop (length bytes + more.count)) same ∙ dropped bytes rest more.count));
    }

-- the input is too long if one byte above the greatest length was read
pub too_long : (bytes : List ℕ) (left left' : Option (List ℕ)) → Moves [] left bytes left' → most_bytes < length bytes → length bytes ≤ 67108865 →
    IsTooLong left left'
too_long bytes None None moves more most = record { longer = tt; taken = refl }
too_long bytes None (Some rest) moves more most = absurd cc
too_long bytes (Some all) None moves more most = absurd cc
too_long bytes (Some all) (Some rest) moves more most =
    let same : all ≡ bytes ++ rest = cc in
    let long : length bytes ≡ 67108865 = omega arith in
    let longer : most_bytes < length (bytes ++ rest) = omega (arith, length-append bytes rest) in
    record {
      longer = subst (λ (whole : List ℕ). most_bytes < length whole) (sym same) longer;
      taken = ap Some (sym (ap (drop 67108865) same ∙ drop_at bytes rest 67108865 long));
    }
