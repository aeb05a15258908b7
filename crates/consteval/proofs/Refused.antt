-- What a valid body is refused for: a type without a layout or without a size, or want of memory, and that alone where its cost is defined.
use Rattle.std.proofs.Common.{◌≡◌, ℕ, ◌<◌, ◌≤◌, ◌⊎◌, ⊎_elim, inl, inr, eqb-true, Bool, true, false, List, [], ◌∷◌, ◌++◌, Option, Some, Err, refl, sym, ap, ◌∙◌, subst, arith, None}
use Rattle.std.specs.Prelude.{option_and_then, option_map, not, ◌==◌, ◌||◌}
use Rattle.std.proofs.lemmas.Bool.{cases_lt}
use Rattle.source_meaning.specs.Core.{CoreExpr, Number, Character}
use Rattle.source_meaning.specs.Core as expr
use Rattle.types.specs.declared.ids.DefWithBodyId.TheVariants.{ConstId, FunctionId, StaticId, VariantId}
use Rattle.types.specs.declared.ids.BindingId.{BindingId}
use Rattle.types.specs.declared.ids.GenericParamId.{GenericParamId}
use Rattle.types.specs.declared.ids.PatId.{PatId}
use Rattle.world.specs.declared.database.BodyRow.{BodyRow}
use Rattle.world.specs.declared.database.HirDatabase.{HirDatabase}
use Rattle.world.specs.declared.layout.Layout.{Layout}
use Rattle.world.specs.declared.limits.Limits.{Limits}
use Rattle.types.specs.declared.ids.DefWithBodyId.{DefWithBodyId}
use Rattle.types.specs.declared.ty.GenericArgs.{GenericArgs}
use Rattle.types.specs.declared.ty.Ty.{Ty, Char as CharTy}
use Rattle.world.specs.Lookups.{body_row, layout_of}
use Rattle.world.specs.Checked.{IsChecked}
use Rattle.numbers.specs.Bytes.{is_width}
use Rattle.mir.specs.declared.body.MirBody.{MirBody}
use Rattle.mir.specs.declared.errors.MirEvalError.{MirEvalError}
use Rattle.mir.specs.declared.errors.MirEvalError as error
use Rattle.mir.specs.declared.errors.MirLowerError.{MirLowerError}
use Rattle.mir.specs.declared.errors.MirLowerError.TheVariants as refusal
use Rattle.mir.specs.Run.{begun}
use Rattle.mir.specs.declared.ids.LocalId.{LocalId}
use Rattle.mir_lower.specs.Callees.{AreLocalsOf}
use Rattle.mir_lower.specs.Refusals.{HasDrops, RefusesInferred, RefusesParameters}
use Rattle.body_forms.specs.Refusals.{IsNumber, RefusesNode, JumpsTo}
use Rattle.body_forms.proofs.Causes.{built-is-complete, built-is-no-unbuilt, built-has-array, built-has-local, built-is-resolved}
use Rattle.mir_lower.specs.Simulates.{Simulates}
use Rattle.source_meaning.proofs.Built.{plain_is_built}
use Rattle.source_meaning.specs.Entering.{entering}
use Rattle.source_meaning.proofs.Layouts.{char_is_four, integer_is_width}
use Rattle.source_meaning.specs.Calls.{names_bound, parameters, self_bound}
use Rattle.source_meaning.specs.Source.{Source, Cell, node, root}
use Rattle.source_meaning.specs.Valid.{Evaluates, at_once, IsChar, IsPlain, HasPlainForm, IsPlainNode, HasDefinedCost, FitsAround, JumpsFit}
use Rattle.consteval.specs.Answers.{EndsEvaluation, EndsLowering, PassesBytesAtOnce, RefusesRun}
use Rattle.consteval.specs.Refusals.{RefusesBody}
use Rattle.consteval.specs.Built.{has_errors, has_generics, is_empty, is_erroneous, is_generic_function, is_unbuilt, is_unbuilt_definition}
use Rattle.source_meaning.specs.Around.{Opened, meant}
use Rattle.types.specs.declared.ids.LabelId.{LabelId}
use Rattle.types.specs.declared.ids.ExprId.{ExprId}
use Rattle.consteval.specs.Kept.{program_of}
use Rattle.consteval.specs.Sources.{source_of}
use Rattle.consteval.specs.Valid.{IsPlainItem, IsValid}
use Rattle.consteval.proofs.Begins.{begins, begun-never, begun-refusal}
use Rattle.consteval.proofs.Built.{built-without-args}
use Rattle.consteval.proofs.Nesting.{run-nests}
use Rattle.consteval.proofs.Faults.{NeverRunsFor, never-without-level, overflowed}
use Rattle.consteval.proofs.Parameters.{refuses-no-parameters}

-- a body without parameters has none
no-parameters : (source : Source) → source.body.params ≡ [] → source.body.self_param ≡ None → parameters source ≡ Some []
unfolding parameters names_bound
no-parameters source no_params no_self =
    ap (λ (params : List PatId). option_map (λ named. self_bound source.body.self_param ++ named) (names_bound source params)) no_params
    ∙ ap (λ (own : Option BindingId). Some (self_bound own ++ [])) no_self

same-bound : (one other : List ℕ) → Some one ≡ Some other → one ≡ other
same-bound one other h = cc

no-locals : (allotted : Cell → Option ℕ) (locals : List LocalId) → AreLocalsOf allotted [] locals → locals ≡ []
no-locals allotted [] are = refl
no-locals allotted (local ∷ locals) are = absurd are

module _ (world : HirDatabase) (def : DefWithBodyId) (args : GenericArgs) (row : BodyRow) (limits : Limits) (body : MirBody) (e : MirEvalError) (valid : IsValid world def args row) (simulates : Simulates (source_of world row) body) where
  -- a valid body has no parameters, so its graph has no parameters' locals
  without-params : body.param_locals ≡ []
  without-params =
      let same : simulates.params.bound ≡ [] = same-bound _ _ (sym simulates.params.binds ∙ no-parameters (source_of world row) valid.no_params valid.no_self) in
      no-locals simulates.allotted body.param_locals (subst (λ (bound : List ℕ). AreLocalsOf simulates.allotted bound body.param_locals) same simulates.params.locals)

  -- a refusal of a run of a valid body is for the limit on nesting, or for what `begun` is refused for
  refusal-cases : {A : Type 0} → RefusesRun world def body limits e → ((e ≡ error.StackOverflow) → (limits.nesting ≡ 0) → A) → ((begun (program_of world limits []) body ≡ Err e) → A) → A
  refusal-cases refuses by-nesting by-cells =
      ⊎_elim (λ none. let is = none.1 in let there = valid.pointers in absurd cc)
      (⊎_elim (λ other. absurd (let is = other.2 in let there = valid.pointers in other.3 cc))
      (⊎_elim (λ deep. by-nesting deep.0 deep.2)
      (⊎_elim (λ refused. by-cells refused.2) (λ lacking. absurd (lacking.5 without-params)))))
      refuses

  pub run-refusal : RefusesRun world def body limits e → EndsEvaluation (source_of world row) limits e
  run-refusal refuses =
      refusal-cases refuses (λ is none. subst (EndsEvaluation (source_of world row) limits) (sym is) (overflowed (source_of world row) limits (let nests = run-nests (source_of world row) in omega arith)))
      (begun-refusal (source_of world row) (program_of world limits []) limits body e refl refl simulates)

  -- so none begins
  pub run-never : RefusesRun world def body limits e → NeverRunsFor (source_of world row) limits e
  run-never refuses =
      refusal-cases refuses (λ is none. subst (NeverRunsFor (source_of world row) limits) (sym is) (never-without-level (source_of world row) limits none))
      (begun-never (source_of world row) (program_of world limits []) limits body e refl refl simulates)

  -- a valid body with a defined cost can begin where there is a level of nesting for its run and room for its cells
  pub run-is-refused-by-limits : HasDefinedCost (source_of world row) → RefusesRun world def body limits e → (limits.nesting ≡ 0) ⊎ PassesBytesAtOnce (source_of world row) limits.bytes
  run-is-refused-by-limits cost refuses =
      refusal-cases refuses (λ is none. inl none) (λ refused.
      ⊎_elim (λ passes. inr passes)
      (λ within. absurd (let can = begins (source_of world row) (program_of world limits []) body refl simulates cost within in let is = can.1 in cc))
      (cases_lt limits.bytes (entering (source_of world row)).bytes))

-- `==` is false of a number and a lesser one
not-by : (size width : ℕ) (b : Bool) → (size == width) ≡ b → width < size → b ≡ false
not-by size width true is less = let same = eqb-true size width is in absurd (omega arith)
not-by size width false is less = refl

is-not : (size width : ℕ) → 16 < size → width ≤ 16 → (size == width) ≡ false
is-not size width wide le = not-by size width (size == width) refl (omega arith)

-- the size of an integer is at most 16 bytes
wide-is-no-width : (size : ℕ) → is_width size ≡ true → 16 < size → ⊥
wide-is-no-width size is wide =
    let one = is-not size 1 wide (omega arith) in
    let two = is-not size 2 wide (omega arith) in
    let four = is-not size 4 wide (omega arith) in
    let eight = is-not size 8 wide (omega arith) in
    let sixteen = is-not size 16 wide (omega arith) in
    let none : is_width size ≡ false =
    ap (λ b. b || size == 2 || size == 4 || size == 8 || size == 16) one ∙ ap (λ b. b || size == 4 || size == 8 || size == 16) two
    ∙ ap (λ b. b || size == 8 || size == 16) four ∙ ap (λ b. b || size == 16) eight ∙ sixteen in
    cc

-- a character has as many bytes as an integer of some type
char-is-width : (world : HirDatabase) (ty : Ty) (layout : Layout) → IsChecked world → IsChar ty → layout_of world ty ≡ Some layout → is_width layout.size ≡ true
char-is-width world CharTy layout checked is found = ap is_width (char_is_four world layout checked found)
char-is-width world _ layout checked is found = absurd is

-- and so has a literal of a plain form that is a number or a character
literal-is-width : (source : Source) (e : ℕ) (form : Option CoreExpr) (ty : Ty) (layout : Layout) → IsChecked source.world → HasPlainForm source e form ty → IsNumber form → layout_of source.world ty ≡ Some layout → is_width layout.size ≡ true
literal-is-width source e (Some (expr.Literal (Number n))) ty layout checked plain number found = integer_is_width source.world ty layout checked plain found
literal-is-width source e (Some (expr.Literal (Character code))) ty layout checked plain number found = char-is-width source.world ty layout checked plain found
literal-is-width source e _ ty layout checked plain number found = absurd number

-- a jump that fits what stands around it has a target
open-target : (source : Source) (form : Option CoreExpr) → form ≡ Some (expr.Continue None) → FitsAround source [] form → ⊥
unfolding meant
open-target source form is fits = let none = (subst (FitsAround source []) is fits).means in cc

plain-target : (source : Source) (value : Option ExprId) (form : Option CoreExpr) → form ≡ Some (expr.Break None value) → FitsAround source [] form → ⊥
unfolding meant
plain-target source value form is fits = let none = (subst (FitsAround source []) is fits).means in cc

named-target : (source : Source) (outer : List Opened) (label : LabelId) (form : Option CoreExpr) → JumpsTo label form → FitsAround source outer form → meant (Some label) outer ≡ None → ⊥
named-target source outer label (Some (expr.Break given value)) jumps fits lacks =
    let none = ap (λ (l : Option LabelId). meant l outer) jumps ∙ lacks in
    let there = fits.means in
    cc
named-target source outer label (Some (expr.Continue given)) jumps fits lacks =
    let none = ap (λ (l : Option LabelId). meant l outer) jumps ∙ lacks in
    let there = fits.means in
    cc
named-target source outer label (Some (expr.Literal l)) jumps fits lacks = jumps
named-target source outer label (Some (expr.Path name)) jumps fits lacks = jumps
named-target source outer label (Some expr.UnitStruct) jumps fits lacks = jumps
named-target source outer label (Some (expr.Update base id args sources operands)) jumps fits lacks = jumps
named-target source outer label (Some (expr.Field base field)) jumps fits lacks = jumps
named-target source outer label (Some (expr.Strict operation operands)) jumps fits lacks = jumps
named-target source outer label (Some (expr.Logic op left right)) jumps fits lacks = jumps
named-target source outer label (Some (expr.If condition then_branch else_branch)) jumps fits lacks = jumps
named-target source outer label (Some (expr.Assign to value)) jumps fits lacks = jumps
named-target source outer label (Some (expr.Compound op to value)) jumps fits lacks = jumps
named-target source outer label (Some (expr.Block statements tail)) jumps fits lacks = jumps
named-target source outer label (Some (expr.Labelled own statements tail)) jumps fits lacks = jumps
named-target source outer label (Some (expr.Loop own body)) jumps fits lacks = jumps
named-target source outer label (Some (expr.Return value)) jumps fits lacks = jumps
named-target source outer label (Some (expr.Call callee args)) jumps fits lacks = jumps
named-target source outer label None jumps fits lacks = jumps

-- a plain form is refused for want of memory, or as a number literal whose type has no layout
refuses-node : (source : Source) (e : ℕ) (error : MirLowerError) → IsChecked source.world → JumpsFit source [] (root source) → IsPlainNode source e → Evaluates source (root source) e → RefusesNode source e error → (error ≡ refusal.NoMemory) ⊎ EndsLowering source error
refuses-node source e (refusal.LayoutError layout_error) checked fits plain at refuses = inr (e, at, refuses)
refuses-node source e refusal.IncompleteExpr checked fits plain at refuses = absurd (built-is-complete source e (plain_is_built source e plain) refuses)
refuses-node source e (refusal.UnresolvedName name) checked fits plain at refuses = absurd (built-is-resolved source e (node source e) name (plain_is_built source e plain) refuses)
refuses-node source e refusal.InaccessibleLocal checked fits plain at refuses = absurd (built-has-local source e (node source e) (plain_is_built source e plain) refuses)
refuses-node source e refusal.HasErrors checked fits plain at refuses = absurd refuses
refuses-node source e refusal.ContinueWithoutLoop checked fits plain at refuses = absurd (open-target source (node source e) refuses.0 (fits [] e refuses.1))
refuses-node source e refusal.BreakWithoutLoop checked fits plain at refuses = absurd (plain-target source refuses.0 (node source e) refuses.1 (fits [] e refuses.2))
refuses-node source e refusal.UnresolvedLabel checked fits plain at refuses = absurd (named-target source refuses.2.0 refuses.0 (node source e) refuses.1 (fits refuses.2.0 e refuses.2.1) refuses.2.2)
refuses-node source e (refusal.TypeError text) checked fits plain at refuses =
    ⊎_elim
    (λ wide.
    let layout : layout_of source.world plain.ty ≡ Some wide.2 = ap (option_and_then (layout_of source.world)) (sym plain.has_type) ∙ wide.3 in
    absurd (wide-is-no-width wide.2.size (literal-is-width source e (node source e) plain.ty wide.2 checked plain.form wide.1 layout) wide.4))
    (λ none. absurd (built-has-array source e (node source e) text (plain_is_built source e plain) none))
    refuses
refuses-node source e (refusal.NotSupported text) checked fits plain at refuses = absurd (built-is-no-unbuilt source e (node source e) (plain_is_built source e plain) refuses.1)
refuses-node source e refusal.NoMemory checked fits plain at refuses = inl refl

-- where types have sizes, no number literal lacks a layout
pub sized-is-lowered : (source : Source) (e : MirLowerError) → HasDefinedCost source → EndsLowering source e → ⊥
sized-is-lowered source (refusal.LayoutError layout_error) cost ends = let is = ends.2.1 in let sized = cost.nodes ends.0 ends.1 in let there = sized.of_itself.found in cc
sized-is-lowered source _ cost ends = ends

-- A definition that is built and given no arguments, with a plain body without typing errors and drops: nothing keeps it from being lowered but a number
-- literal whose type has no layout, or want of memory.
pub record CanBeLowered (world : HirDatabase) (def : DefWithBodyId) (args : GenericArgs) (row : BodyRow) : Type 0 where
  pub no_args : args.0 ≡ []
  pub built : is_unbuilt_definition world def ≡ false
  pub body : body_row world def ≡ Some row
  pub inferred : row.infer.erroneous ≡ false
  pub fitting : row.infer.mismatches ≡ []
  pub dropless : ¬ HasDrops (source_of world row)
  pub plain : IsPlain (source_of world row)
  pub parameters : (e : MirLowerError) → RefusesParameters (source_of world row) e → e ≡ refusal.NoMemory

module _ (world : HirDatabase) (def : DefWithBodyId) (args : GenericArgs) (row : BodyRow) (can : CanBeLowered world def args row) where
  -- there is no typing error where inference found none
  has-no-errors : is_erroneous world def ≡ true → ⊥
  has-no-errors errors =
      let found : is_erroneous world def ≡ has_errors (Some row.infer) = ap (λ (r : Option BodyRow). has_errors (option_map (λ row. row.infer) r)) can.body in
      let none : has_errors (Some row.infer) ≡ false =
      ap (λ (erroneous : Bool). erroneous || not (is_empty row.infer.mismatches)) can.inferred ∙ ap (λ (es : List ExprId). not (is_empty es)) can.fitting in
      cc

  -- and what is built isn't unbuilt
  is-not-unbuilt : is_unbuilt world def args ≡ true → ⊥
  is-not-unbuilt unbuilt = let built = built-without-args world def args can.no_args can.built in cc

  -- so it is refused for a number literal, or for want of memory
  pub refuses-literal : (e : MirLowerError) → IsChecked world → RefusesBody world def args e → (e ≡ refusal.NoMemory) ⊎ EndsLowering (source_of world row) e
  refuses-literal e checked =
      ⊎_elim (λ errors. absurd (has-no-errors errors.errors))
      (⊎_elim (λ unbuilt. absurd (is-not-unbuilt unbuilt.unbuilt))
      (⊎_elim (λ none. absurd (let is = none.missing in let there = can.body in cc)) (λ refused.
      let same : refused.row ≡ row = (let is = refused.found in let there = can.body in cc) in
      ⊎_elim (λ drops. absurd (can.dropless drops.1))
      (⊎_elim (λ of_parameters. inl (can.parameters e of_parameters))
      (λ at. let plain = can.plain in refuses-node (source_of world row) at.0 e checked plain.jumps (plain.nodes at.0 at.1) at.1 at.2))
      (subst (λ (r : BodyRow). RefusesInferred (source_of world r) e) same refused.refuses))))

-- a constant or a function that is evaluated by a run of its own body is of a kind that is built
valid-item-is-built : (world : HirDatabase) (def : DefWithBodyId) (ty : Ty) → IsPlainItem world def ty → is_unbuilt_definition world def ≡ false
valid-item-is-built world (ConstId id) ty item =
    ap has_generics item.found ∙ ap (λ (generics : List GenericParamId). not (is_empty generics)) item.no_generics
valid-item-is-built world (FunctionId id) ty item =
    ap is_generic_function item.found ∙ ap (λ (generics : List GenericParamId). not (is_empty generics)) item.no_generics
valid-item-is-built world (StaticId id) ty item = absurd item
valid-item-is-built world (VariantId id) ty item = absurd item

-- the body of a valid definition can be lowered
valid-can : (world : HirDatabase) (def : DefWithBodyId) (args : GenericArgs) (row : BodyRow) → IsValid world def args row → CanBeLowered world def args row
valid-can world def args row valid =
    record {
      no_args = valid.no_args;
      built = valid-item-is-built world def valid.ty valid.item;
      body = valid.body;
      inferred = valid.inferred;
      fitting = valid.fitting;
      dropless = valid.dropless;
      plain = valid.plain.each (source_of world row) at_once;
      parameters = λ e refuses. refuses-no-parameters (source_of world row) [] [] e (no-parameters (source_of world row) valid.no_params valid.no_self) tt refuses;
    }

-- a valid body is lowered, but for want of memory and for number literals whose types have no layout
pub lowering-refusal : (world : HirDatabase) (def : DefWithBodyId) (args : GenericArgs) (row : BodyRow) (e : MirLowerError) → IsChecked world → IsValid world def args row → (e ≡ refusal.NoMemory) ⊎ RefusesBody world def args e → (e ≡ refusal.NoMemory) ⊎ EndsLowering (source_of world row) e
lowering-refusal world def args row e checked valid = ⊎_elim inl (refuses-literal world def args row (valid-can world def args row valid) e checked)

-- a valid body with a defined cost is lowered, but for want of memory
pub lowering-is-not-refused : (world : HirDatabase) (def : DefWithBodyId) (args : GenericArgs) (row : BodyRow) (e : MirLowerError) → IsChecked world → IsValid world def args row → HasDefinedCost (source_of world row) → (e ≡ refusal.NoMemory) ⊎ RefusesBody world def args e → e ≡ refusal.NoMemory
lowering-is-not-refused world def args row e checked valid cost refuses =
    ⊎_elim (λ none. none) (λ ends. absurd (sized-is-lowered (source_of world row) e cost ends)) (lowering-refusal world def args row e checked valid refuses)
