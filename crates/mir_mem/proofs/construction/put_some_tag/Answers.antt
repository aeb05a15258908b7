use Rattle.std.proofs.Common.{◌≡◌, Some, None, Option, Result, Ok, Err, List, ℕ, inl, inr, ⊎_elim, sym, ap, ◌∙◌, rules, take, FitsSigned, to_z, of_z}
use Rattle.std.specs.Int.{w128}
use Rattle.std.proofs.lemmas.Int.{to_z-of_z}
use Rattle.mir.specs.declared.errors.MirEvalError.{MirEvalError}
use Rattle.numbers.specs.Aggregates.{with_part}
use Rattle.numbers.specs.Bytes.{low_bytes}
use Rattle.mir_mem.specs.declared.construction.TagBytes.{TagBytes}
use Rattle.mir_mem.specs.Construction.{tag_outside, with_tag}
use Rattle.mir_mem.proofs.construction.put_some_tag.Goals as goal

-- bytes with a tag, where it was put
abbrev Put : TagBytes → Option (List ℕ) → Result (List ℕ) MirEvalError
Put tag next = elim next [ Some now ↦ Ok now | None ↦ Err (tag_outside tag.offset tag.size tag.value) ]

puts : (tag : TagBytes) (digits bytes : List ℕ) → FitsSigned w128 tag.value → digits ≡ low_bytes tag.size (to_z w128 (of_z w128 tag.value)) → (found : Option (List ℕ)) → with_part tag.offset digits bytes ≡ found → with_tag (Some tag) bytes ≡ Put tag found
unfolding with_tag
puts tag digits bytes fits are found is =
    let own : digits ≡ low_bytes tag.size tag.value = are ∙ ap (low_bytes tag.size) (to_z-of_z w128 tag.value fits) in
    ap (Put tag) (sym (ap (λ (d : List ℕ). with_part tag.offset d bytes) own) ∙ is)

pub returns-then-put_part-clause-ok : goal.returns-then-put_part-clause-ok
returns-then-put_part-clause-ok c =
    let tag = c.args.tag in
    let fits : FitsSigned w128 tag.value = search rules in
    puts tag (take tag.size c.digits_of-digits.result) c.args.all.now fits (c.digits_of-digits.ensures tag.size c.requires) (Some c.put_part.new.all) c.if-put_part.ensures.written

pub returns-else-put_part-clause-err : goal.returns-else-put_part-clause-err
returns-else-put_part-clause-err c =
    let tag = c.args.tag in
    let fits : FitsSigned w128 tag.value = search rules in
    let refused = puts tag (take tag.size c.digits_of-digits.result) c.args.all.now fits (c.digits_of-digits.ensures tag.size c.requires) None c.if-put_part.ensures.refused in
    ⊎_elim inl (λ is. inr (refused ∙ ap Err (sym (is ∙ ap (tag_outside tag.offset tag.size) (to_z-of_z w128 tag.value fits))))) c.tag_outside.ensures
