use Rattle.std.proofs.Common.{ℕ, ◌+◌, drop, Option, Some, Bor, sym, ap, ◌∙◌, refl}
use Rattle.std.specs.Prelude.{option_and_then, option_map}
use Rattle.std.specs.Option.{option_copied}
use Rattle.types.specs.declared.ty.Ty.{Ty}
use Rattle.mir.specs.Places.{added, elem_offset, elem_type, offset_behind}
use Rattle.mir_rows.specs.Places.{saturated}
use Rattle.mir_rows.proofs.Walks.{added-zero, offset-last, offset-missing, offset-more, saturated-twice, seen-next}
use Rattle.mir_rows.proofs.places.offset_behind.Goals as goal

pub loop-elem-init : goal.loop-elem-init
loop-elem-init g c = record {
  sum = ap (option_map saturated) (added-zero (offset_behind c.args.db.now (g.N.Numbers.held c.args.numbers.now) c.args.elements.now (option_copied c.args.ty)));
  small = refl;
}

pub returns-in_default : goal.returns-in_default
returns-in_default g c =
    let at = c.loop-elem in
    let elem = c.elem-item.result in
    let held = g.N.Numbers.held c.args.numbers.now in
    offset-missing c.args.elements.now at.elem-index elem c.loop-elem-test.true c.elem-item.is c.args.db.now held at.offset (option_copied at.seen) _ at.invariant.sum
    (ap (λ (s : Option (Bor Ty)). option_map saturated (option_and_then (elem_offset c.args.db.now held elem) (option_copied s))) (sym c.in_default.is))

pub returns-in_default-elem_offset : goal.returns-in_default-elem_offset
returns-in_default-elem_offset g c =
    let at = c.loop-elem in
    let elem = c.elem-item.result in
    let held = g.N.Numbers.held c.args.numbers.now in
    offset-missing c.args.elements.now at.elem-index elem c.loop-elem-test.true c.elem-item.is c.args.db.now held at.offset (option_copied at.seen) _ at.invariant.sum
    (c.in_default-elem_offset.ensures ∙ ap (λ (s : Option (Bor Ty)). option_map saturated (option_and_then (elem_offset c.args.db.now held elem) (option_copied s))) (sym c.in-Some.is))

pub loop-elem-preserved : goal.loop-elem-preserved
loop-elem-preserved g c =
    let at = c.loop-elem in
    let elem = c.elem-item.result in
    let held = g.N.Numbers.held c.args.numbers.now in
    let more = c.in-Some-elem_offset.more in
    let now = c.saturating_add-offset.ensures in
    record {
      sum =
          ap (λ (t : Option Ty). option_map saturated (added (Some c.saturating_add-offset.result) (offset_behind c.args.db.now held (drop (at.elem-index + 1) c.args.elements.now) t)))
          (seen-next c.args.db.now elem at.seen c.in-Some.ty c.elem_type-seen.result c.in-Some.is c.elem_type-seen.ensures)
          ∙ ap (λ (n : ℕ). option_map saturated (added (Some n) (offset_behind c.args.db.now held (drop (at.elem-index + 1) c.args.elements.now) (option_and_then (elem_type c.args.db.now elem) (option_copied at.seen))))) now
          ∙ offset-more c.args.elements.now at.elem-index elem c.loop-elem-test.true c.elem-item.is c.args.db.now held at.offset (option_copied at.seen) _ at.invariant.sum more
          (c.in-Some-elem_offset.ensures ∙ ap (λ (s : Option (Bor Ty)). option_map saturated (option_and_then (elem_offset c.args.db.now held elem) (option_copied s))) (sym c.in-Some.is));
      small = ap saturated now ∙ saturated-twice (at.offset + more) ∙ sym now;
    }

pub returns : goal.returns
returns g c =
    let at = c.loop-elem in
    sym (offset-last c.args.elements.now at.elem-index c.loop-elem-test.false c.args.db.now (g.N.Numbers.held c.args.numbers.now) at.offset (option_copied at.seen) at.invariant.small) ∙ at.invariant.sum
