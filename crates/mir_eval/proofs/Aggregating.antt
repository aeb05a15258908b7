-- Values that are made of operands.
use Rattle.std.proofs.Common.{◌≡◌, ℕ, zero, suc, ◌+◌, ◌≤◌, Bool, true, List, [], ◌∷◌, ◌++◌, length, take, drop, slice_get, Option, Some, None, Result, Ok, Err, refl, sym, ap, ◌∙◌, arith, append-nil, append_assoc}
use Rattle.std.specs.Prelude.{is_some, option_map}
use Rattle.std.specs.List.{concat}
use Rattle.std.proofs.lemmas.List.{drop_all}
use Rattle.mir.specs.declared.errors.MirEvalError.{MirEvalError}
use Rattle.mir.specs.declared.operand.Operand.{Operand}
use Rattle.mir.specs.Memory.{Memory}
use Rattle.mir.specs.Run.{Frame, bad_read, before, joined, operand_bytes, operands_bytes}
use Rattle.mir_mem.proofs.Placed.{drop-some}

-- bytes that others stand behind
pub take-front : (n : ℕ) (bytes more : List ℕ) → length bytes ≡ n → take n (bytes ++ more) ≡ bytes
take-front zero [] more is = refl
take-front zero (byte ∷ bytes) more is = absurd (omega (arith, is))
take-front (suc n) [] more is = absurd (omega (arith, is))
take-front (suc n) (byte ∷ bytes) more is = ap (λ (rest : List ℕ). byte ∷ rest) (take-front n bytes more (omega (arith, is)))

before-none : (bytes : Option (List ℕ)) → before bytes None ≡ None
before-none (Some bytes) = refl
before-none None = refl

-- bytes before those of the operands that are left
abbrev pub joined-with : List ℕ → Option (List (List ℕ)) → Option (List ℕ)
joined-with done parts = option_map (λ rest. done ++ concat rest) parts

module _ (frame : Frame) (memory : Memory) where
  -- the bytes of the first operand, and of those behind it
  one-more : (operand : Operand) (operands : List Operand) → operands_bytes frame memory (operand ∷ operands) ≡ before (operand_bytes frame memory operand.kind) (operands_bytes frame memory operands)
  unfolding operands_bytes
  one-more operand operands = refl

  none-left : operands_bytes frame memory [] ≡ Some []
  unfolding operands_bytes
  none-left = refl

  -- an operand that can't be read
  pub unreadable : (operands : List Operand) (i : ℕ) (operand : Operand) → slice_get operands i ≡ Some operand → operand_bytes frame memory operand.kind ≡ None → operands_bytes frame memory operands ≡ None
  unreadable [] i operand is none = absurd cc
  unreadable (first ∷ rest) zero operand is none =
      let same : first ≡ operand = cc in
      one-more first rest ∙ ap (λ (o : Operand). before (operand_bytes frame memory o.kind) (operands_bytes frame memory rest)) same ∙ ap (λ (bytes : Option (List ℕ)). before bytes (operands_bytes frame memory rest)) none
  unreadable (first ∷ rest) (suc i) operand is none =
      one-more first rest ∙ ap (before (operand_bytes frame memory first.kind)) (unreadable rest i operand is none) ∙ before-none (operand_bytes frame memory first.kind)

  -- one that can
  before-some : (operands : List Operand) (i : ℕ) (operand : Operand) (bytes : List ℕ) → slice_get operands i ≡ Some operand → operand_bytes frame memory operand.kind ≡ Some bytes →
      operands_bytes frame memory (drop i operands) ≡ before (Some bytes) (operands_bytes frame memory (drop (suc i) operands))
  before-some operands i operand bytes is are =
      ap (operands_bytes frame memory) (drop-some operands i operand is)
      ∙ one-more operand (drop (suc i) operands)
      ∙ ap (λ (b : Option (List ℕ)). before b (operands_bytes frame memory (drop (suc i) operands))) are

  all-left : (operands : List Operand) (i : ℕ) → length operands ≤ i → operands_bytes frame memory (drop i operands) ≡ Some []
  all-left operands i none = ap (operands_bytes frame memory) (drop_all i operands none) ∙ none-left

  is-some-before : (bytes : List ℕ) (rest : Option (List (List ℕ))) → is_some (before (Some bytes) rest) ≡ is_some rest
  is-some-before bytes (Some rest) = refl
  is-some-before bytes None = refl

  -- whether all can be read, by those that are left
  pub readable-next : (operands : List Operand) (i : ℕ) (operand : Operand) (bytes : List ℕ) (whole : Bool) → slice_get operands i ≡ Some operand → operand_bytes frame memory operand.kind ≡ Some bytes →
      is_some (operands_bytes frame memory (drop i operands)) ≡ whole → is_some (operands_bytes frame memory (drop (i + 1) operands)) ≡ whole
  readable-next operands i operand bytes whole is are same =
      let more : i + 1 ≡ suc i = omega arith in
      ap (λ (n : ℕ). is_some (operands_bytes frame memory (drop n operands))) more
      ∙ sym (ap is_some (before-some operands i operand bytes is are) ∙ is-some-before bytes (operands_bytes frame memory (drop (suc i) operands)))
      ∙ same

  pub readable-last : (operands : List Operand) (i : ℕ) (whole : Bool) → length operands ≤ i → is_some (operands_bytes frame memory (drop i operands)) ≡ whole → true ≡ whole
  readable-last operands i whole none same = sym (ap is_some (all-left operands i none)) ∙ same

  joined-before : (done bytes : List ℕ) (rest : Option (List (List ℕ))) → joined-with done (before (Some bytes) rest) ≡ joined-with (done ++ bytes) rest
  joined-before done bytes (Some rest) = ap Some (sym (append_assoc done bytes (concat rest)))
  joined-before done bytes None = refl

  pub joined-next : (operands : List Operand) (i : ℕ) (operand : Operand) (done bytes : List ℕ) (whole : Option (List ℕ)) → slice_get operands i ≡ Some operand → operand_bytes frame memory operand.kind ≡ Some bytes →
      joined-with done (operands_bytes frame memory (drop i operands)) ≡ whole → joined-with (done ++ bytes) (operands_bytes frame memory (drop (i + 1) operands)) ≡ whole
  joined-next operands i operand done bytes whole is are same =
      let more : i + 1 ≡ suc i = omega arith in
      ap (λ (n : ℕ). joined-with (done ++ bytes) (operands_bytes frame memory (drop n operands))) more
      ∙ sym (ap (joined-with done) (before-some operands i operand bytes is are) ∙ joined-before done bytes (operands_bytes frame memory (drop (suc i) operands)))
      ∙ same

  all-joined : (done : List ℕ) (parts : Option (List (List ℕ))) → Some (done ++ []) ≡ joined-with [] parts → Ok done ≡ joined parts
  all-joined done (Some parts) is = let same : done ++ [] ≡ concat parts = cc in ap Ok (sym (append-nil done) ∙ same)
  all-joined done None is = absurd cc

  -- the bytes of all
  pub joined-last : (operands : List Operand) (i : ℕ) (done : List ℕ) → length operands ≤ i → joined-with done (operands_bytes frame memory (drop i operands)) ≡ joined-with [] (operands_bytes frame memory operands) →
      Ok done ≡ joined (operands_bytes frame memory operands)
  joined-last operands i done none same =
      all-joined done (operands_bytes frame memory operands) (sym (ap (joined-with done) (all-left operands i none)) ∙ same)

  pub array-unreadable : (parts : Option (List (List ℕ))) → parts ≡ None → ◌≡◌ {A = Result (List ℕ) MirEvalError} (Err bad_read) (joined parts)
  array-unreadable parts is = sym (ap joined is)

  record Split (first : Option (List ℕ)) (rest : Option (List (List ℕ))) (parts : List (List ℕ)) : Type 0 where
    part : List ℕ
    others : List (List ℕ)
    is_part : first ≡ Some part
    are_others : rest ≡ Some others
    are : parts ≡ part ∷ others

  split : (first : Option (List ℕ)) (rest : Option (List (List ℕ))) (parts : List (List ℕ)) → before first rest ≡ Some parts → Split first rest parts
  split (Some part) (Some others) parts is = record { part = part; others = others; is_part = refl; are_others = refl; are = (let same : part ∷ others ≡ parts = cc in sym same) }
  split (Some part) None parts is = absurd cc
  split None rest parts is = absurd cc

  -- the part that an operand is
  pub part-at : (operands : List Operand) (parts : List (List ℕ)) (i : ℕ) (operand : Operand) → operands_bytes frame memory operands ≡ Some parts → slice_get operands i ≡ Some operand →
      (part : List ℕ) × (operand_bytes frame memory operand.kind ≡ Some part) × (slice_get parts i ≡ Some part)
  part-at [] parts i operand are is = absurd cc
  part-at (first ∷ rest) parts zero operand are is =
      let both = split (operand_bytes frame memory first.kind) (operands_bytes frame memory rest) parts (sym (one-more first rest) ∙ are) in
      let same : operand ≡ first = cc in
      (both.part, ap (λ (o : Operand). operand_bytes frame memory o.kind) same ∙ both.is_part, ap (λ (ps : List (List ℕ)). slice_get ps 0) both.are)
  part-at (first ∷ rest) parts (suc i) operand are is =
      let both = split (operand_bytes frame memory first.kind) (operands_bytes frame memory rest) parts (sym (one-more first rest) ∙ are) in
      let later = part-at rest both.others i operand both.are_others is in
      (later.0, later.1, ap (λ (ps : List (List ℕ)). slice_get ps (suc i)) both.are ∙ later.2)

  pub as-many : (operands : List Operand) (parts : List (List ℕ)) → operands_bytes frame memory operands ≡ Some parts → length parts ≡ length operands
  as-many [] parts are = let same : parts ≡ [] = (let some : Some parts ≡ Some [] = sym are ∙ none-left in cc) in ap length same
  as-many (first ∷ rest) parts are =
      let both = split (operand_bytes frame memory first.kind) (operands_bytes frame memory rest) parts (sym (one-more first rest) ∙ are) in
      ap length both.are ∙ ap suc (as-many rest both.others both.are_others)
