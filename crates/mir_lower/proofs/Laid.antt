-- In a plain source, where the locals of the graph have layouts, the types of what is evaluated have.
use Rattle.std.proofs.Common.{◌≡◌, ℕ, zero, suc, ◌⊎◌, inl, inr, false, List, [], ◌∷◌, Contains, Option, Some, None, ◌∙◌, refl, sym, ap, subst, arith}
use Rattle.std.specs.Prelude.{option_map, All}
use Rattle.source_meaning.specs.Core as expr
use Rattle.source_meaning.specs.Around.{Opened}
use Rattle.source_meaning.proofs.Never.{undiverted-type, unadjusted-plain}
use Rattle.source_meaning.specs.Core.{CoreExpr, CoreLiteral, Truth, Number, Character, is_truth}
use Rattle.world.specs.declared.layout.Layout.{Layout}
use Rattle.mir.specs.declared.operand.OperandKind.{OperandKind}
use Rattle.source_meaning.specs.Meaning.{literal_bytes}
use Rattle.source_meaning.specs.Source.{Source, node, unadjusted, own_type, own_layout, Node}
use Rattle.source_meaning.specs.Steps.{parts_of}
use Rattle.source_meaning.specs.Valid.{opened_in, part_in, itself, part, HasPlainForm, IsPlainNode, IsPlainPath, IsLaidOut, NeedsLayout, own, inside, sized_parts, IsLaidOutNode}
use Rattle.mir_graph.specs.Graph.{Shape, local_of_type, temp_of}
use Rattle.mir_lower.specs.Growth.{Grows, IsSound}
use Rattle.body_forms.specs.Literals.{IsLiteral}
use Rattle.mir_lower.specs.Lowered.{IsPlainWithin, HasLayouts, LaysOut, IsNamed, LowersInto}
use Rattle.mir_lower.proofs.Sound.{binding-there}
use Rattle.std.proofs.lemmas.List.Elements.{All-cons}

-- what holds in a graph that grew, held before
pub layouts-before : (source : Source) (old new : Shape) → Grows old new → HasLayouts source new → HasLayouts source old
layouts-before source old new grows layouts l local found = layouts l local (grows.locals l local found)

-- an expression without parts is all that needs a layout there
pub alone : (source : Source) (e f : ℕ) → sized_parts source (node source e) ≡ [] → NeedsLayout source e f → e ≡ f
alone source e f none own = refl
alone source e f none (inside {child = child} is rest) = absurd (no-element child (subst (λ parts. Contains parts child) none is)) where
  no-element : (x : ℕ) → Contains [] x → ⊥
  no-element x is = let below = is.1 in absurd (omega arith)

-- the types of the loops and labelled blocks around the parts of an expression
opened-laid : (source : Source) (e : ℕ) (form : Option CoreExpr) (outer : List Opened) → IsLaidOut source (own_type source e) → All (λ target. IsLaidOut source (own_type source target.node)) outer → All (λ target. IsLaidOut source (own_type source target.node)) (opened_in e form outer)
opened-laid source e (Some (expr.Labelled label statements tail)) outer laid all = All-cons (λ target. IsLaidOut source (own_type source target.node)) _ outer laid all
opened-laid source e (Some (expr.Loop label body)) outer laid all = All-cons (λ target. IsLaidOut source (own_type source target.node)) _ outer laid all
opened-laid source e (Some (expr.Literal l)) outer laid all = all
opened-laid source e (Some (expr.Path name)) outer laid all = all
opened-laid source e (Some expr.UnitStruct) outer laid all = all
opened-laid source e (Some (expr.Update base id args sources operands)) outer laid all = all
opened-laid source e (Some (expr.Field base field)) outer laid all = all
opened-laid source e (Some (expr.Strict operation operands)) outer laid all = all
opened-laid source e (Some (expr.Logic op left right)) outer laid all = all
opened-laid source e (Some (expr.If condition then_branch else_branch)) outer laid all = all
opened-laid source e (Some (expr.Assign assigned value)) outer laid all = all
opened-laid source e (Some (expr.Compound op assigned value)) outer laid all = all
opened-laid source e (Some (expr.Block statements tail)) outer laid all = all
opened-laid source e (Some (expr.Break label value)) outer laid all = all
opened-laid source e (Some (expr.Continue label)) outer laid all = all
opened-laid source e (Some (expr.Return value)) outer laid all = all
opened-laid source e (Some (expr.Call callee args)) outer laid all = all
opened-laid source e None outer laid all = all

-- what is plain where an expression is, is plain where a part of it is
pub plain-part : (source : Source) (e child : ℕ) → Contains (parts_of (node source e)) child → IsLaidOutNode source e → IsPlainWithin source e → IsPlainWithin source child
plain-part source e child is laid plain =
    record {
      aggregates = plain.aggregates;
      nodes = λ f evaluates. plain.nodes f (part is evaluates);
      opened = opened_in e (node source e) plain.opened;
      jumps = λ inner f evaluates. plain.jumps inner f (part_in is evaluates);
      laid = opened-laid source e (node source e) plain.opened laid.of_itself plain.laid;
    }

-- an expression that isn't adjusted has one type
pub laid-unadjusted : (source : Source) (e : ℕ) (form : CoreExpr) → unadjusted source e ≡ Some form → IsLaidOut source (own_type source e) → IsLaidOutNode source e
laid-unadjusted source e form is laid =
    let found = unadjusted-plain source e form is in
    record { of_itself = laid; of_value = subst (IsLaidOut source) (sym (undiverted-type source e found.0)) laid }

-- a number's layout was looked up
found-laid : (source : Source) (e : ℕ) (bytes : List ℕ) (f : Layout → List ℕ) (found : Option Layout) → own_layout source e ≡ found → option_map f found ≡ Some bytes → IsLaidOut source (own_type source e)
found-laid source e bytes f (Some layout) is h = record { layout = layout; found = is }
found-laid source e bytes f None is h = absurd cc

number-laid : (source : Source) (e : ℕ) (l : CoreLiteral) (bytes : List ℕ) → literal_bytes source e l ≡ Some bytes → is_truth (Some (expr.Literal l)) ≡ false → IsLaidOut source (own_type source e)
unfolding literal_bytes
number-laid source e (Truth test) bytes has_bytes truth = absurd cc
number-laid source e (Number n) bytes has_bytes truth = found-laid source e bytes _ (own_layout source e) refl has_bytes
number-laid source e (Character code) bytes has_bytes truth = found-laid source e bytes _ (own_layout source e) refl has_bytes

pub lays-literal : (source : Source) (s : Shape) (e : ℕ) (l : CoreLiteral) (operand : OperandKind) → unadjusted source e ≡ Some (expr.Literal l) → IsLiteral source e l operand → is_truth (unadjusted source e) ≡ false → LaysOut source s e
lays-literal source s e l operand form is truth plain layouts f needs =
    subst (IsLaidOutNode source) (alone source e f (ap (sized_parts source) (unadjusted-plain source e (expr.Literal l) form).1) needs)
    (laid-unadjusted source e (expr.Literal l) form (number-laid source e l is.bytes is.has_bytes (sym (ap is_truth form) ∙ truth)))

pub lays-literal-into : (source : Source) (s : Shape) (e : ℕ) (l : CoreLiteral) → node source e ≡ Some (expr.Literal l) → IsLaidOutNode source e → LaysOut source s e
lays-literal-into source s e l form laid plain layouts f evaluates = subst (IsLaidOutNode source) (alone source e f (ap (sized_parts source) form) evaluates) laid

-- a path has the type of its binding, whose local has a layout
pub lays-name : (source : Source) (s : Shape) (e local : ℕ) (name : _) → IsSound source s → unadjusted source e ≡ Some (expr.Path name) → IsNamed source s e local → LaysOut source s e
lays-name source s e local name sound form named plain layouts f evaluates =
    let is = (unadjusted-plain source e (expr.Path name) form).1 in
    subst (IsLaidOutNode source) (alone source e f (ap (sized_parts source) is) evaluates)
    (laid-unadjusted source e (expr.Path name) form (of-binding (plain.nodes e itself) (subst (λ n. HasPlainForm source e n (plain.nodes e itself).ty) is (plain.nodes e itself).form))) where
      of-binding : (node : IsPlainNode source e) → IsPlainPath source e node.ty → IsLaidOut source (own_type source e)
      of-binding node binds =
          let there = binding-there source s sound binds.binding.0 node.ty binds.binding_has in
          let at = layouts there.0 (local_of_type node.ty) there.1 in
          subst (IsLaidOut source) (sym node.has_type) at

pub lays-name-into : (source : Source) (s : Shape) (e : ℕ) (name : _) → node source e ≡ Some (expr.Path name) → IsLaidOutNode source e → LaysOut source s e
lays-name-into source s e name form laid plain layouts f evaluates = subst (IsLaidOutNode source) (alone source e f (ap (sized_parts source) form) evaluates) laid

-- an expression in a local of its own has its type
pub lays-temp : (source : Source) (s1 s2 : Shape) (e local : ℕ) → IsSound source s1 → temp_of s1 e ≡ Some local → LowersInto source s1 s2 e (Node e) → LaysOut source s2 e
lays-temp source s1 s2 e local sound found into plain layouts =
    let there = sound.allotted.typed (Node e) local found in
    into.laid (subst (IsLaidOut source) (sym there.2) (layouts local there.0 (into.keeps.grows.locals local there.0 there.1))) plain layouts

-- what a list of one or of two holds
pub one-of : (x y : ℕ) → Contains (x ∷ []) y → x ≡ y
one-of x y (zero, below, is) = is
one-of x y (suc k, below, is) = absurd (omega arith)

pub one-of-two : (w x y : ℕ) → Contains (w ∷ x ∷ []) y → (w ≡ y) ⊎ (x ≡ y)
one-of-two w x y (zero, below, is) = inl is
one-of-two w x y (suc zero, below, is) = inr is
one-of-two w x y (suc (suc k), below, is) = absurd (omega arith)
