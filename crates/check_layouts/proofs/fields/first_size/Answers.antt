use Rattle.std.proofs.Common.{◌≡◌, Some, sym, ◌∙◌, ap}
use Rattle.std.specs.BTreeMap.{insert_entry}
use Rattle.check_instances.specs.Instances.{ty_instance}
use Rattle.types.specs.Orders.{ty_cmp}
use Rattle.types.specs.declared.ty.Ty.{Ty}
use Rattle.check_layouts.specs.inner.Fields.{field_size}
use Rattle.check_layouts.proofs.Found.{put_right}
use Rattle.check_layouts.proofs.fields.first_size.Goals as goal

pub returns-in_ok-insert-clause-sizes : goal.returns-in_ok-insert-clause-sizes
returns-in_ok-insert-clause-sizes c =
    let is : field_size c.args.db.now c.args.i (ty_instance c.args.db.now.normals c.args.args.now c.args.ty.now) ≡ Some c.in-Some.size = sym c.in_ok-found.ensures ∙ c.in-Some.is in
    let new : c.insert.new.self ≡ insert_entry ty_cmp c.args.sizes.now c.args.ty.now c.in-Some.size = c.in_ok-insert.ensures.ok ∙ ap (λ (copy : Ty). insert_entry ty_cmp c.args.sizes.now copy c.in-Some.size) c.in_ok-try_clone.ensures in
    rw new (put_right c.args.db.now c.args.i c.args.args.now c.args.ty.now c.in-Some.size c.args.sizes.now is c.requires)
