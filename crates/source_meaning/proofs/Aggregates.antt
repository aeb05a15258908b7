-- The bytes of values that have parts: how many there are, and when there are some.
use Rattle.std.proofs.Common.{◌≡◌, ℕ, zero, suc, ◌+◌, ◌*◌, ◌≤◌, Bool, true, false, nat_le, if◌then◌else◌, List, [], ◌∷◌, ◌++◌, length, take, drop, replicate, Option, Some, None, option_and_then, refl, ap, ◌∙◌, rules, arith, le-leb, leb-true, length-append, length-drop, length-take-le}
use Rattle.std.proofs.lemmas.List.{length-replicate}
use Rattle.types.specs.declared.ty.Const.{Const}
use Rattle.types.specs.declared.ty.Const.TheFolds.{the_lemmas}
use Rattle.types.specs.declared.ty.Ty.{Ty}
use Rattle.types.specs.declared.ty.Ty.TheVariants.{Array}
use Rattle.numbers.specs.Aggregates.{with_part, with_parts, constructed, repeated}
use Rattle.numbers.specs.Constants.{number_in}
use Rattle.source_meaning.specs.Aggregates.{array_length}

-- there are bytes, and as many as this
pub record AreBytes (size : ℕ) (given : Option (List ℕ)) : Type 0 where
  pub bytes : List ℕ
  pub is : given ≡ Some bytes
  pub long : length bytes ≡ size

-- each part has an offset, and a part at its offset ends within the size of the whole
abbrev pub AreInside : (size : ℕ) → (offsets : List ℕ) → (parts : List (List ℕ)) → Type 0
AreInside size offsets [] = Unit {0}
AreInside size (offset ∷ offsets) (part ∷ parts) = (offset + length part ≤ size) × AreInside size offsets parts
AreInside size [] (part ∷ parts) = ⊥

-- bytes in which others stand from an offset on
abbrev pub placed : (offset : ℕ) → (part bytes : List ℕ) → List ℕ
placed offset part bytes = take offset bytes ++ (part ++ drop (offset + length part) bytes)

-- they are as many as before
pub length-placed : (offset : ℕ) (part bytes : List ℕ) → offset + length part ≤ length bytes → length (placed offset part bytes) ≡ length bytes
length-placed offset part bytes within =
    omega (arith, length-append (take offset bytes) (part ++ drop (offset + length part) bytes), length-append part (drop (offset + length part) bytes), length-take-le offset bytes (omega arith), length-drop (offset + length part) bytes)

-- a part that ends inside is put there
pub with_part-is : (offset : ℕ) (part bytes : List ℕ) → offset + length part ≤ length bytes → with_part offset part bytes ≡ Some (placed offset part bytes)
unfolding with_part
with_part-is offset part bytes within = ap (λ fits. if fits then Some (placed offset part bytes) else None) (le-leb (offset + length part) (length bytes) within)

pub with_part-there : (offset : ℕ) (part bytes : List ℕ) → offset + length part ≤ length bytes → AreBytes (length bytes) (with_part offset part bytes)
with_part-there offset part bytes within =
    record { bytes = placed offset part bytes; is = with_part-is offset part bytes within; long = length-placed offset part bytes within }

-- where it was put, it ends inside
pub with_part-within : (offset : ℕ) (part bytes after : List ℕ) → with_part offset part bytes ≡ Some after → (offset + length part ≤ length bytes) × (after ≡ placed offset part bytes)
unfolding with_part
with_part-within offset part bytes after is = by_test (nat_le (offset + length part) (length bytes)) refl is
  where
    by_test : (fits : Bool) → nat_le (offset + length part) (length bytes) ≡ fits → (if fits then Some (placed offset part bytes) else None) ≡ Some after → (offset + length part ≤ length bytes) × (after ≡ placed offset part bytes)
    by_test true fits is = (leb-true (offset + length part) (length bytes) fits, (let same : after ≡ placed offset part bytes = cc in same))
    by_test false fits is = absurd cc

pub length-with_part : (offset : ℕ) (part bytes after : List ℕ) → with_part offset part bytes ≡ Some after → length after ≡ length bytes
length-with_part offset part bytes after is =
    let put = with_part-within offset part bytes after is in ap length put.1 ∙ length-placed offset part bytes put.0

-- parts that lie inside are put there, and the bytes are as many as before
pub with_parts-there : (size : ℕ) (offsets : List ℕ) (parts : List (List ℕ)) (bytes : List ℕ) → AreInside size offsets parts → length bytes ≡ size → AreBytes size (with_parts offsets parts bytes)
unfolding with_parts
with_parts-there size offsets [] bytes inside long = record { bytes = bytes; is = refl; long = long }
with_parts-there size [] (part ∷ parts) bytes inside long = absurd inside
with_parts-there size (offset ∷ offsets) (part ∷ parts) bytes inside long =
    let first = with_part-there offset part bytes (omega (arith, inside.0, long)) in
    let rest = with_parts-there size offsets parts first.bytes inside.1 (first.long ∙ long) in
    record { bytes = rest.bytes; is = ap (option_and_then (with_parts offsets parts)) first.is ∙ rest.is; long = rest.long }

pub length-with_parts : (offsets : List ℕ) (parts : List (List ℕ)) (bytes after : List ℕ) → with_parts offsets parts bytes ≡ Some after → length after ≡ length bytes
unfolding with_parts
length-with_parts offsets [] bytes after is = let same : after ≡ bytes = cc in ap length same
length-with_parts [] (part ∷ parts) bytes after is = absurd cc
length-with_parts (offset ∷ offsets) (part ∷ parts) bytes after is = by_first (λ next. length-with_parts offsets parts next after) (with_part offset part bytes) refl is
  where
    by_first : ((next : List ℕ) → with_parts offsets parts next ≡ Some after → length after ≡ length next) → (first : Option (List ℕ)) → with_part offset part bytes ≡ first → option_and_then (with_parts offsets parts) first ≡ Some after →
        length after ≡ length bytes
    by_first later (Some next) put rest = later next rest ∙ length-with_part offset part bytes next put
    by_first later None put rest = absurd cc

-- a value whose parts lie inside is there, and has its size
pub constructed-there : (size : ℕ) (offsets : List ℕ) (parts : List (List ℕ)) → AreInside size offsets parts → AreBytes size (constructed size offsets parts)
unfolding constructed
constructed-there size offsets parts inside = with_parts-there size offsets parts (replicate size 0) inside (length-replicate size 0)

pub length-constructed : (size : ℕ) (offsets : List ℕ) (parts : List (List ℕ)) (bytes : List ℕ) → constructed size offsets parts ≡ Some bytes → length bytes ≡ size
unfolding constructed
length-constructed size offsets parts bytes is = length-with_parts offsets parts (replicate size 0) bytes is ∙ length-replicate size 0

-- a value again and again has as many bytes as often it is there
pub length-repeated : (count : ℕ) (bytes : List ℕ) → length (repeated count bytes) ≡ count * length bytes
unfolding repeated
length-repeated zero bytes = omega arith
length-repeated (suc count) bytes = omega (arith, length-append bytes (repeated count bytes), length-repeated count bytes)

-- how many elements an array has is what the constant of its type says
pub length_of_array : (element : Ty) (len : Const) → array_length (Array element len) ≡ number_in len
unfolding array_length
length_of_array element len = search (the_lemmas, rules)
