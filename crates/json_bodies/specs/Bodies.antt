-- Readers of bodies.
use Rattle.std.specs.Prelude.{[], ◌∷◌, None, codes}
use Rattle.serde_json.specs.Data.{Data}
use Rattle.world.specs.declared.body.Binding.{Binding}
use Rattle.world.specs.declared.body.BindingAnnotation.TheVariants as the_binding_annotation
use Rattle.world.specs.declared.body.BindingAnnotation.{BindingAnnotation}
use Rattle.world.specs.declared.body.Body.{Body}
use Rattle.json_bodies.specs.Exprs.{expr_of}
use Rattle.json_kit.specs.Fit.{Fit, ◌>>=◌}
use Rattle.json_types.specs.Ids.{binding_id_of, expr_id_of, pat_id_of}
use Rattle.json_kit.specs.Keys.{members_of, optional, required, with_no_other}
use Rattle.json_kit.specs.Parts.{list_of, option_of}
use Rattle.json_bodies.specs.Pats.{pat_of}
use Rattle.json_kit.specs.Scalars.{text_of}
use Rattle.json_kit.specs.Variants.{enum_of, unit}

unfoldable pub binding_annotation_of : Data → Fit BindingAnnotation
binding_annotation_of = enum_of (unit (codes "Unannotated") the_binding_annotation.Unannotated ∷ unit (codes "Mutable") the_binding_annotation.Mutable ∷ unit (codes "Ref") the_binding_annotation.Ref ∷ unit (codes "RefMut") the_binding_annotation.RefMut ∷ [])

unfoldable pub binding_of : Data → Fit Binding
binding_of d = do
  ms ← members_of d
  name ← required (codes "name") text_of d
  mode ← required (codes "mode") binding_annotation_of d
  owner ← optional None (codes "owner") (option_of expr_id_of) d
  with_no_other (codes "name" ∷ codes "mode" ∷ codes "owner" ∷ []) ms (record { name = name; mode = mode; owner = owner })

unfoldable pub body_of : Data → Fit Body
body_of d = do
  ms ← members_of d
  exprs ← optional [] (codes "exprs") (list_of expr_of) d
  pats ← optional [] (codes "pats") (list_of pat_of) d
  bindings ← optional [] (codes "bindings") (list_of binding_of) d
  labels ← optional [] (codes "labels") (list_of text_of) d
  params ← optional [] (codes "params") (list_of pat_id_of) d
  self_param ← optional None (codes "self_param") (option_of binding_id_of) d
  body_expr ← required (codes "body_expr") expr_id_of d
  with_no_other (codes "exprs" ∷ codes "pats" ∷ codes "bindings" ∷ codes "labels" ∷ codes "params" ∷ codes "self_param" ∷ codes "body_expr" ∷ []) ms (record { exprs = exprs; pats = pats; bindings = bindings; labels = labels; params = params; self_param = self_param; body_expr = body_expr })
