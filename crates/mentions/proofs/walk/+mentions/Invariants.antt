use Rattle.std.proofs.Common.{◌≡◌, take, true}
use Rattle.std.specs.List.{list_all}
use Rattle.mentions.specs.Mentions.{ty_mentions, arg_mentions, bound_mentions}
use Rattle.mentions.proofs.walk.+mentions.Given as goal

abbrev pub invariant-all_in_tys-loop-ty : goal.invariant-all_in_tys-loop-ty
invariant-all_in_tys-loop-ty g l = list_all (λ ty. list_all (g.T.MentionTest.passes l.test) (ty_mentions ty)) (take l.ty-index l.items) ≡ true

abbrev pub invariant-all_in_bounds-loop-bound : goal.invariant-all_in_bounds-loop-bound
invariant-all_in_bounds-loop-bound g l = list_all (λ bound. list_all (g.T.MentionTest.passes l.test) (bound_mentions bound)) (take l.bound-index l.items) ≡ true

abbrev pub invariant-all_in_list-loop-arg : goal.invariant-all_in_list-loop-arg
invariant-all_in_list-loop-arg g l = list_all (λ arg. list_all (g.T.MentionTest.passes l.test) (arg_mentions arg)) (take l.arg-index l.items) ≡ true
