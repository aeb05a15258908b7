-- Operands one after another, of which one may be out of bounds.
use Rattle.std.proofs.Common.{◌≡◌, ℕ, ◌+◌, ◌<◌, ◌≤◌, Bool, true, false, ◌||◌, List, ◌∷◌, length, drop, get_or, Option, sym, ap, ◌∙◌}
use Rattle.std.proofs.lemmas.List.{drop_all, drop_more}
use Rattle.world.specs.declared.database.HirDatabase.{HirDatabase}
use Rattle.mir.specs.declared.body.MirBody.{MirBody}
use Rattle.mir.specs.declared.ids.LocalId.{LocalId}
use Rattle.mir.specs.declared.operand.Operand.{Operand}
use Rattle.mir.specs.Run.{operand_out, some_out}

module _ (world : HirDatabase) (body : MirBody) (numbers : LocalId → Option ℕ) (operands : List Operand) (i : ℕ) where
  module _ (operand : Operand) (less : i < length operands) (is : operand ≡ get_or operands i operand) where
    out-next : some_out world body numbers (drop i operands) ≡ (operand_out world body numbers operand.kind || some_out world body numbers (drop (i + 1) operands))
    unfolding some_out
    out-next = ap (some_out world body numbers) (drop_more operands i operand less ∙ ap (λ (o : Operand). o ∷ drop (i + 1) operands) (sym is))

    pub out-here : operand_out world body numbers operand.kind ≡ true → some_out world body numbers (drop i operands) ≡ true
    out-here out = out-next ∙ ap (λ (b : Bool). b || some_out world body numbers (drop (i + 1) operands)) out

    pub out-behind : operand_out world body numbers operand.kind ≡ false → some_out world body numbers (drop i operands) ≡ some_out world body numbers (drop (i + 1) operands)
    out-behind out = out-next ∙ ap (λ (b : Bool). b || some_out world body numbers (drop (i + 1) operands)) out

  pub out-last : length operands ≤ i → some_out world body numbers (drop i operands) ≡ false
  unfolding some_out
  out-last none = ap (some_out world body numbers) (drop_all i operands none)
