-- From the first graph through the parameters, the root, the scope that is left, and the return.
use Rattle.std.proofs.Common.{◌⊎◌, ◌++◌, [], List, refl, sym, ap, ◌∙◌, subst, inr}
use Rattle.mir.specs.declared.body.Local.{Local}
use Rattle.mir.specs.declared.errors.MirLowerError.{MirLowerError}
use Rattle.mir.specs.declared.ids.LocalId.{LocalId}
use Rattle.mir.specs.ProjectionIds.{projections_of}
use Rattle.mir.specs.declared.span.MirSpan.TheVariants.{ExprId}
use Rattle.source_meaning.specs.Calls.{parameter_cells}
use Rattle.source_meaning.specs.Events.{marked}
use Rattle.source_meaning.specs.Source.{Source, Cell, root, Result}
use Rattle.source_meaning.specs.Valid.{itself}
use Rattle.body_forms.specs.Contexts.{source_of}
use Rattle.mir_lower.specs.Callees.{AreLocalsOf}
use Rattle.mir_graph.specs.Graph.{Shape, shape, local_of, with_scope}
use Rattle.mir_lower.specs.Leaving.{Idles}
use Rattle.mir_lower.specs.Lowered.{LowersInto}
use Rattle.mir_lower.specs.Refusals.{RefusesAt, RefusesParameters}
use Rattle.mir_lower.proofs.Aligned.{are-aligned}
use Rattle.mir_lower.proofs.Ready.{around-first}
use Rattle.mir_lower.proofs.Refused.{refuses-no-memory, refused-exit}
use Rattle.mir_lower.proofs.Beginning.{first-sound, begins-marking, marked-since}
use Rattle.mir_lower.proofs.Drops.{opened-within, scope-left}
use Rattle.mir_lower.proofs.Whole.{leaving, here-first, whole-front, whole-simulates}
use Rattle.mir_lower.proofs.body.lower_body.Goals as goal

-- the causes of refusals
abbrev Cause : Source → MirLowerError → Type 0
Cause source error = RefusesParameters source error ⊎ RefusesAt source (root source) error

pub returns-in_err-store-clause-refused : goal.returns-in_err-store-clause-refused
returns-in_err-store-clause-refused c =
    let source = source_of c.args.context.now in
    refused-exit (Cause source) _ c.from_residual.result c.from_residual.ensures.1 (λ error none. inr (refuses-no-memory source (root source) error none))

pub returns-in_err-graph-clause-refused : goal.returns-in_err-graph-clause-refused
returns-in_err-graph-clause-refused c =
    let source = source_of c.args.context.now in
    refused-exit (Cause source) _ c.from_residual-in_err-graph.result c.from_residual-in_err-graph.ensures.1 (λ error none. inr (refuses-no-memory source (root source) error none))

pub lower_params-requires : goal.lower_params-requires
lower_params-requires c = first-sound (source_of c.args.context.now) (shape projections_of c.in_ok-graph.graph) c.in_ok-graph.ensures

pub lower_into-requires-clause-ready : goal.lower_into-requires-clause-ready
lower_into-requires-clause-ready c =
    let source = source_of c.args.context.now in
    let begun = begins-marking source (shape projections_of c.in_ok-graph.graph) (shape projections_of c.lower_params.new.graph) (parameter_cells source) c.in_ok-params.ensures.lowered.marked c.in_ok-graph.ensures in
    record {
      checked = c.requires.checked;
      sound = begun.sound;
      «open» = begun.«open»;
      within = c.requires.checked.root;
      reached = itself;
      around = around-first source (shape projections_of c.lower_params.new.graph) begun.targets;
    }

pub lower_into-requires-clause-placed : goal.lower_into-requires-clause-placed
lower_into-requires-clause-placed c = record { cell = Result; found = refl }

pub leave_scope-requires-clause-sound : goal.leave_scope-requires-clause-sound
leave_scope-requires-clause-sound c = (c.in_ok-lower_into.ensures.lowered Result refl).keeps.sound

pub leave_scope-requires-clause-opened : goal.leave_scope-requires-clause-opened
leave_scope-requires-clause-opened c = (c.in_ok-lower_into.ensures.lowered Result refl).keeps.«open»

pub leave_scope-requires-clause-within : goal.leave_scope-requires-clause-within
leave_scope-requires-clause-within c =
    let source = source_of c.args.context.now in
    let s0 = shape projections_of c.in_ok-graph.graph in
    let s2 = shape projections_of c.lower_into.new.graph in
    let inner = parameter_cells source ++ marked source (root source) in
    let since = marked-since source s0 (shape projections_of c.lower_params.new.graph) (parameter_cells source) c.in_ok-params.ensures.lowered.marked s2 (marked source (root source)) (c.in_ok-lower_into.ensures.lowered Result refl).keeps.scope in
    opened-within s0 s2 c.push_drop_scope-scope.result.0 inner c.push_drop_scope-scope.ensures since

pub returns-in_err-leave_scope-clause-refused : goal.returns-in_err-leave_scope-clause-refused
returns-in_err-leave_scope-clause-refused c =
    let source = source_of c.args.context.now in
    refused-exit (Cause source) _ c.from_residual-in_err-leave_scope.result c.from_residual-in_err-leave_scope.ensures.1 (λ error none. inr (refuses-no-memory source (root source) error none))

pub returns : goal.returns
returns c =
    let source = source_of c.args.context.now in
    let s0 = shape projections_of c.in_ok-graph.graph in
    let s1 = shape projections_of c.lower_params.new.graph in
    let s2 = shape projections_of c.lower_into.new.graph in
    let s3 = shape projections_of c.leave_scope.new.graph in
    let token = c.push_drop_scope-scope.result.0 in
    let opened = c.push_drop_scope-scope.ensures in
    let cells = parameter_cells source in
    let params = c.in_ok-params.ensures.lowered in
    let begun = begins-marking source s0 s1 cells params.marked c.in_ok-graph.ensures in
    let into : LowersInto source s1 s2 (root source) Result = c.in_ok-lower_into.ensures.lowered Result refl in
    let since = marked-since source s0 s1 cells params.marked s2 (marked source (root source)) into.keeps.scope in
    let left : Idles source (with_scope [] s2) s3 (leaving source) =
    subst (λ (scope : List Cell). Idles source (with_scope scope s2) s3 (leaving source)) c.in_ok-graph.ensures.scope
    (scope-left s0 s2 token (cells ++ marked source (root source)) opened since source s3 c.in_ok-leave_scope.ensures) in
    let begins = here-first s1 begun.blocks begun.current in
    let span = ExprId c.args.context.now.body.now.body_expr in
    let body = c.into_body.result in
    let locals = c.into_body.ensures.locals ∙ ap (λ (s : Shape). s.locals) c.set_terminator.ensures in
    let told : AreLocalsOf (local_of s1) params.bound body.param_locals = subst (λ (ls : List LocalId). AreLocalsOf (local_of s1) params.bound ls) (sym c.into_body.ensures.params) params.told in
    let front = whole-front source s1 s2 s3 span begins begun.scope begun.targets into left body.locals locals in
    record {
      simulates = whole-simulates source s1 s2 s3 span begins begun.scope begun.targets into left body (are-aligned source.world c.requires.world) c.requires.checked
          (c.into_body.ensures.blocks ∙ ap (λ (s : Shape). s.blocks) c.set_terminator.ensures) locals (c.into_body.ensures.projections ∙ ap (λ (s : Shape). s.projections) c.set_terminator.ensures) c.into_body.ensures.start params.bound params.binds told;
      order = record { temporaries = front.0; order = front.1 ∙ ap (λ (ls : List Local). ls ++ front.0) begun.locals };
      owner = c.into_body.ensures.owner;
      built = c.in_ok-lower_into.ensures.built;
      refused = tt;
    }
