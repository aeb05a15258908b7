-- Steps of the climb from a jump to the loop or block with its label.
use Rattle.std.proofs.Common.{◌≡◌, ℕ, suc, zero, ◌+◌, ◌-◌, ◌<◌, ◌≤◌, Bool, true, false, true≢false, Option, Some, None, refl, sym, ◌∙◌, ap, subst, arith, Decides}
use Rattle.types.specs.declared.ids.LabelId.{LabelId}
use Rattle.world.specs.Nodes.{jump_label}
use Rattle.world.specs.declared.body.Body.{Body}
use Rattle.world.specs.declared.expr.Expr.{Expr as Expression}
use Rattle.check_trees.specs.Jumps.{is_labelled, IsAbove, IsEnclosed, IsJumpInside}
use Rattle.check_trees.specs.Tree.{holder_of, is_top}
use Rattle.check_trees.specs.declared.node.BodyNode.{BodyNode}
use Rattle.check_trees.specs.declared.node.BodyNode.TheVariants.{Expr}
use Rattle.check_trees.proofs.Parents.{above-suc, above-zero, above_same, above_step}

-- a loop or a block with the label is among the next `n` nodes above
pub record IsAmong (body : Body) (label : LabelId) (n : ℕ) (node : BodyNode) : Type 0 where
  pub steps : ℕ
  pub above : BodyNode
  pub few : steps < n
  pub way : IsAbove body (suc steps) node above
  pub labelled : is_labelled body label above ≡ true

-- what a climb of `step` steps from `start` has come to: the label encloses the start where it is among the nodes that are left
abbrev pub IsLeft : Body → LabelId → ℕ → BodyNode → BodyNode → Type 0
IsLeft body label step start node = (IsAmong body label (401 - step) node → IsEnclosed body label start) × (IsEnclosed body label start → IsAmong body label (401 - step) node)

pub left_start : (body : Body) (label : LabelId) (start : BodyNode) → IsLeft body label 0 start start
left_start body label start = (
  λ h. record { steps = h.steps; above = h.above; few = h.few; way = h.way; labelled = h.labelled },
  λ h. record { steps = h.steps; above = h.above; few = h.few; way = h.way; labelled = h.labelled },
)

first : (body : Body) (label : LabelId) (node holder : BodyNode) (steps : ℕ) (above : BodyNode) → holder_of body node ≡ Some holder → IsAbove body (suc steps) node above → IsAbove body steps holder above
first body label node holder steps above held way =
    let step = above_step body steps node above way in
    let is : Some step.1.0 ≡ Some holder = sym step.1.1 ∙ held in
    let same : step.1.0 ≡ holder = cc in
    subst (λ h. IsAbove body steps h above) same step.1.2

-- the climb ends at the root or a parameter
pub enclosed_top : (body : Body) (label : LabelId) (step : ℕ) (start node : BodyNode) → is_top body node ≡ true → IsLeft body label step start node → Decides false (IsEnclosed body label start)
enclosed_top body label step start node top left = ((λ e. cc), (λ h. let among = left.1 h in let inner = (above_step body among.steps node among.above among.way).0 in cc))

-- it ends at a node without a parent
pub enclosed_none : (body : Body) (label : LabelId) (step : ℕ) (start node : BodyNode) (found : Option BodyNode) → found ≡ holder_of body node → found ≡ None → IsLeft body label step start node → Decides false (IsEnclosed body label start)
enclosed_none body label step start node found e none left =
    ((λ e. cc), (λ h. let among = left.1 h in let held = (above_step body among.steps node among.above among.way).1.1 in let is = sym none ∙ e in cc))

-- it ends where no step is left
pub enclosed_end : (body : Body) (label : LabelId) (step : ℕ) (start node : BodyNode) → 401 ≤ step → IsLeft body label step start node → Decides false (IsEnclosed body label start)
enclosed_end body label step start node over left = ((λ e. cc), (λ h. none_left step (left.1 h).steps over (left.1 h).few))
  where
    none_left : (step n : ℕ) → 401 ≤ step → n < 401 - step → false ≡ true
    none_left step n h few = absurd (omega arith)

-- the parent has the label: the climb ends
pub enclosed_here : (body : Body) (label : LabelId) (step : ℕ) (start node holder : BodyNode) (found : Option BodyNode) → step < 401 → is_top body node ≡ false → found ≡ holder_of body node → found ≡ Some holder → is_labelled body label holder ≡ true → IsLeft body label step start node → Decides true (IsEnclosed body label start)
enclosed_here body label step start node holder found h inner e some named left =
    ((λ _. left.0 (record { steps = zero; above = holder; few = some_left step h; way = above-suc body zero node holder holder inner (sym e ∙ some) (above-zero body holder); labelled = named })), (λ _. refl))
  where
    some_left : (step : ℕ) → step < 401 → 0 < 401 - step
    some_left step h = omega arith

-- the parent doesn't have the label: the climb continues at it
pub enclosed_more : (body : Body) (label : LabelId) (step : ℕ) (start node holder : BodyNode) (found : Option BodyNode) → is_top body node ≡ false → found ≡ holder_of body node → found ≡ Some holder → is_labelled body label holder ≡ false → IsLeft body label step start node → IsLeft body label (step + 1) start holder
enclosed_more body label step start node holder found inner e some named left = (asked, tested)
  where
    held : holder_of body node ≡ Some holder
    held = sym e ∙ some

    fewer : (n : ℕ) → n < 401 - (step + 1) → suc n < 401 - step
    fewer n h = omega arith

    fewer_back : (n : ℕ) → suc n < 401 - step → n < 401 - (step + 1)
    fewer_back n h = omega arith

    asked : IsAmong body label (401 - (step + 1)) holder → IsEnclosed body label start
    asked h = left.0 (record { steps = suc h.steps; above = h.above; few = fewer h.steps h.few; way = above-suc body (suc h.steps) node holder h.above inner held h.way; labelled = h.labelled })

    rest : (steps : ℕ) (above : BodyNode) → steps < 401 - step → IsAbove body (suc steps) node above → is_labelled body label above ≡ true → IsAmong body label (401 - (step + 1)) holder
    rest zero above few way labelled =
        let same : holder ≡ above = above_same body holder above (first body label node holder zero above held way) in
        let is : is_labelled body label holder ≡ true = ap (is_labelled body label) same ∙ labelled in
        absurd (true≢false (sym is ∙ named))
    rest (suc steps) above few way labelled =
        record { steps = steps; above = above; few = fewer_back steps few; way = first body label node holder (suc steps) above held way; labelled = labelled }

    tested : IsEnclosed body label start → IsAmong body label (401 - (step + 1)) holder
    tested h = let among = left.1 h in rest among.steps among.above among.few among.way among.labelled

-- an expression that is no jump to a label
pub no_jump : (body : Body) (e : ℕ) (node : Expression) (found : Option LabelId) → found ≡ jump_label node → found ≡ None → Decides true (IsJumpInside body e node)
no_jump body e node found is none = ((λ _ label some. let other = sym none ∙ is ∙ some in impossible label other), (λ _. refl))
  where
    impossible : (label : LabelId) → None ≡ Some label → IsEnclosed body label (Expr e)
    impossible label h = cc

-- a jump to a label
pub jump_to : (body : Body) (e : ℕ) (node : Expression) (found : Option LabelId) (label : LabelId) (b : Bool) → found ≡ jump_label node → found ≡ Some label → Decides b (IsEnclosed body label (Expr e)) → Decides b (IsJumpInside body e node)
jump_to body e node found label b is named h = (asked, λ all. h.1 (all label (sym is ∙ named)))
  where
    asked : b ≡ true → (other : LabelId) → jump_label node ≡ Some other → IsEnclosed body other (Expr e)
    asked holds other some =
        let one : Some label ≡ Some other = sym named ∙ is ∙ some in
        let same : label ≡ other = cc in
        subst (λ l. IsEnclosed body l (Expr e)) same (h.0 holds)
