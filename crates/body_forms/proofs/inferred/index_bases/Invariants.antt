use Rattle.std.proofs.Common.{◌≡◌, take}
use Rattle.std.specs.Prelude.{flat_map}
use Rattle.source_meaning.specs.Source.{base_in}
use Rattle.body_forms.proofs.inferred.index_bases.Given as goal

-- the bases so far
abbrev pub invariant-loop-expr : goal.invariant-loop-expr
invariant-loop-expr l = l.bases ≡ flat_map base_in (take l.expr-index l.exprs)
