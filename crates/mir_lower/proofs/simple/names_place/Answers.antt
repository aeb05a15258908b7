-- A path and a field name a place, and nothing else does.
use Rattle.std.proofs.Common.{sym, ap, subst}
use Rattle.source_meaning.specs.Core.{is_place}
use Rattle.body_forms.specs.Contexts.{source_of}
use Rattle.body_forms.specs.Form.{IsPlaceForm}
use Rattle.mir_lower.proofs.simple.names_place.Goals as goal

pub returns-in-Path : goal.returns-in-Path
returns-in-Path c = sym (ap is_place (subst (IsPlaceForm (source_of c.args.context.now) c.args.e.0) c.in-Path.is c.place_form_at.ensures))

pub returns-in-Field : goal.returns-in-Field
returns-in-Field c = sym (ap is_place (subst (IsPlaceForm (source_of c.args.context.now) c.args.e.0) c.in-Field.is c.place_form_at.ensures))

pub returns-in-Value : goal.returns-in-Value
returns-in-Value c = sym (subst (IsPlaceForm (source_of c.args.context.now) c.args.e.0) c.in-Value.is c.place_form_at.ensures)
