-- Writes of more bytes than a memory has.
use Rattle.std.proofs.Common.{◌≡◌, ℕ, ◌+◌, ◌*◌, ◌<◌, Bool, false, cond, leb, eqb, List, length, Option, Some, None, option_map, Result, Ok, Err, refl, sym, ap, ◌∙◌, arith}
use Rattle.std.proofs.lemmas.Bool.Decides.{nat_tests}
use Rattle.mir.specs.declared.address.Address.{Address}
use Rattle.mir.specs.declared.address.Address.TheVariants.{Stack, Heap, Invalid}
use Rattle.mir.specs.declared.address.Interval.{Interval}
use Rattle.mir.specs.declared.errors.MirEvalError.{MirEvalError}
use Rattle.mir.specs.declared.errors.MirEvalError as error
use Rattle.std.specs.Prelude.{codes}
use Rattle.mir.specs.Areas.{Areas, with_bytes, with_part, with_some_bytes}
use Rattle.mir.specs.Run.{bad_read, bad_write, copied, repeats}
use Rattle.numbers.specs.Aggregates.{repeated}
use Rattle.mir_mem.proofs.Repeated.{length-repeated}

fits-not : (place size all : ℕ) → all < size → leb (place + size) all ≡ false
fits-not place size all more = grind (arith, nat_tests)

no-part : (area : List ℕ) (place : ℕ) (bytes : List ℕ) → length area < length bytes → with_part area place bytes ≡ None
unfolding with_part
no-part area place bytes more = rw (fits-not place (length bytes) (length area) more) refl

not-none : (size more : ℕ) → more < size → eqb size 0 ≡ false
not-none size more less = grind (arith, nat_tests)

module _ (areas : Areas) (bytes : List ℕ) (stack : length areas.stack < length bytes) (heap : length areas.heap < length bytes) where
  no-some-bytes : (address : Address) → with_some_bytes areas address bytes ≡ None
  unfolding with_some_bytes
  no-some-bytes (Stack place) = ap (option_map (λ s. record areas { stack = s })) (no-part areas.stack place bytes stack)
  no-some-bytes (Heap place) = ap (option_map (λ h. record areas { heap = h })) (no-part areas.heap place bytes heap)
  no-some-bytes (Invalid n) = refl

  no-bytes : (address : Address) → with_bytes areas address bytes ≡ None
  unfolding with_bytes
  no-bytes address = ap (λ (none : Bool). cond none (Some areas) (with_some_bytes areas address bytes)) (not-none (length bytes) (length areas.stack) stack) ∙ no-some-bytes address

  -- they aren't written
  pub copied-too-long : (to : Interval) → copied areas (Some to) (Ok bytes) ≡ Err bad_write
  unfolding copied
  copied-too-long to = ap (λ (after : Option Areas). said after) (no-bytes to.addr) where
    said : Option Areas → Result Areas MirEvalError
    said found = elim found [ Some after ↦ Ok after | None ↦ Err bad_write ]

-- and so it is for a value that stands there again and again
pub repeated-too-long : (areas : Areas) (to : Interval) (count : ℕ) (bytes : List ℕ) (times : Option ℕ) (found : Option (List ℕ)) → times ≡ Some count → found ≡ Some bytes →
    length areas.stack < count * length bytes → length areas.heap < count * length bytes → copied areas (Some to) (repeats times found) ≡ Err bad_write
unfolding repeats
repeated-too-long areas to count bytes times found is are stack heap =
    let long = length-repeated count bytes in
    ap (λ (n : Option ℕ). copied areas (Some to) (repeats n found)) is
    ∙ ap (λ (b : Option (List ℕ)). copied areas (Some to) (repeats (Some count) b)) are
    ∙ copied-too-long areas (repeated count bytes) (omega (arith, stack, long)) (omega (arith, heap, long)) to

pub repeats-some : (count : ℕ) (bytes all : List ℕ) (times : Option ℕ) (found : Option (List ℕ)) → times ≡ Some count → found ≡ Some bytes → all ≡ repeated count bytes → Ok all ≡ repeats times found
unfolding repeats
repeats-some count bytes all times found is are same =
    ap Ok same ∙ sym (ap (λ (n : Option ℕ). repeats n found) is ∙ ap (repeats (Some count)) are)

pub repeats-none : (times : Option ℕ) (found : Option (List ℕ)) → times ≡ None → Err (error.NotSupported (codes "non evaluatable array len in repeat Rvalue")) ≡ repeats times found
unfolding repeats
repeats-none times found is = sym (ap (λ (n : Option ℕ). repeats n found) is)

pub repeats-unread : (count : ℕ) (times : Option ℕ) (found : Option (List ℕ)) → times ≡ Some count → found ≡ None → Err bad_read ≡ repeats times found
unfolding repeats
repeats-unread count times found is none = sym (ap (λ (n : Option ℕ). repeats n found) is ∙ ap (repeats (Some count)) none)
