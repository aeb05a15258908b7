-- What a look-up among answers finds: queries are found equal just where they are the same.
use Rattle.std.proofs.Common.{◌≡◌, ◌∙◌, Bool, true, false, cond, List, Option, Some, None, refl, sym, ap, subst}
use Rattle.std.specs.Prelude.{IsTrue, IfSome, option_map}
use Rattle.std.specs.Bool.{Decides}
use Rattle.std.specs.Ordering.{is_eq}
use Rattle.types.specs.Orders.{args_eq}
use Rattle.types.specs.SameScalars.{differ, both, const_same, enum_variant_same, function_same, interned_closure_same, static_same}
use Rattle.types.specs.SameType.{args_decides}
use Rattle.types.specs.contracts.ids.ConstIdPartialEq.TheImpl as ConstIdPartialEq
use Rattle.types.specs.contracts.ids.DefWithBodyIdPartialEq.TheImpl as DefWithBodyIdPartialEq
use Rattle.types.specs.contracts.ids.InternedClosureIdPartialEq.TheImpl as InternedClosureIdPartialEq
use Rattle.types.specs.declared.ids.DefWithBodyId.{DefWithBodyId}
use Rattle.types.specs.declared.ids.DefWithBodyId.TheVariants.{FunctionId, StaticId, ConstId, VariantId}
use Rattle.mir.specs.Answers.{AreOfKind, IsAfterPut, answer_to, answers_kind}
use Rattle.mir.specs.contracts.answers.QueryEq.TheImpl.Laws as equal
use Rattle.mir.specs.contracts.answers.QueryOrd.TheImpl as QueryOrd
use Rattle.mir.specs.contracts.answers.QueryOrd.TheImpl.Laws as ordered
use Rattle.mir.specs.contracts.answers.QueryPartialEq.TheImpl as QueryPartialEq
use Rattle.mir.specs.declared.answers.Answer.{Answer}
use Rattle.mir.specs.declared.answers.Query.{Query}
use Rattle.mir.specs.declared.answers.Query.TheVariants.{Konst, Static, Discriminant, Body, Closure}

def_same : (a b : DefWithBodyId) → DefWithBodyIdPartialEq.ghosts.eq a b ≡ true → a ≡ b
def_same (FunctionId a) (FunctionId b) h = ap FunctionId (function_same a b h)
def_same (FunctionId a) _ h = differ h
def_same (StaticId a) (StaticId b) h = ap StaticId (static_same a b h)
def_same (StaticId a) _ h = differ h
def_same (ConstId a) (ConstId b) h = ap ConstId (const_same a b h)
def_same (ConstId a) _ h = differ h
def_same (VariantId a) (VariantId b) h = ap VariantId (enum_variant_same a b h)
def_same (VariantId a) _ h = differ h

query_same : (a b : Query) → QueryPartialEq.ghosts.eq a b ≡ true → a ≡ b
query_same (Konst k l) (Konst b c) h =
    let p = both (ConstIdPartialEq.ghosts.eq k b) (args_eq l c) h in
    let e : k ≡ b = const_same k b p.0 in
    let f : l ≡ c = (args_decides l c).0 p.1 in
    cc
query_same (Konst k l) _ h = differ h
query_same (Static a) (Static b) h = ap Static (static_same a b h)
query_same (Static a) _ h = differ h
query_same (Discriminant a) (Discriminant b) h = ap Discriminant (enum_variant_same a b h)
query_same (Discriminant a) _ h = differ h
query_same (Body k l) (Body b c) h =
    let p = both (DefWithBodyIdPartialEq.ghosts.eq k b) (args_eq l c) h in
    let e : k ≡ b = def_same k b p.0 in
    let f : l ≡ c = (args_decides l c).0 p.1 in
    cc
query_same (Body k l) _ h = differ h
query_same (Closure k l) (Closure b c) h =
    let p = both (InternedClosureIdPartialEq.ghosts.eq k b) (args_eq l c) h in
    let e : k ≡ b = interned_closure_same k b p.0 in
    let f : l ≡ c = (args_decides l c).0 p.1 in
    cc
query_same (Closure k l) _ h = differ h

-- `==` finds two queries equal just where they are the same
pub query_decides : (a b : Query) → Decides (QueryPartialEq.ghosts.eq a b) (a ≡ b)
query_decides a b = (query_same a b, λ same. subst (λ q. QueryPartialEq.ghosts.eq a q ≡ true) same (equal.laws-law.refl a))

-- the order of queries finds two equal just where they are the same
pub order_decides : (a b : Query) → Decides (is_eq (QueryOrd.ghosts.cmp a b)) (a ≡ b)
order_decides a b = subst (λ r. Decides r (a ≡ b)) (ordered.matches_eq-law a b) (query_decides a b)

-- the answer that is found is of the kind that the query wants
pub found_kind : {R : Type 0} (now : R → Answer) (answers : List (Query × Answer)) (q : Query) (r : Option R) → option_map now r ≡ answer_to answers q
    → AreOfKind answers → IfSome r (λ a. IsTrue (answers_kind q (now a)))
found_kind now answers q None is kept = tt
found_kind now answers q (Some x) is kept = kept.each q (now x) (sym is)

-- the answer to each query after an answer to one of them was put in
abbrev pub IsUpdated : List (Query × Answer) → List (Query × Answer) → Query → Answer → Type 0
IsUpdated before after q a = (other : Query) → answer_to after other ≡ cond (is_eq (QueryOrd.ghosts.cmp q other)) (Some a) (answer_to before other)

pub kind_stays : (before after : List (Query × Answer)) (q : Query) (a : Answer) → IsUpdated before after q a → IsTrue (answers_kind q a)
    → AreOfKind before → AreOfKind after
kind_stays before after q a updated right kept = record { each = λ other b is. at other b is (is_eq (QueryOrd.ghosts.cmp q other)) refl } where
  at : (other : Query) (b : Answer) → answer_to after other ≡ Some b → (r : Bool) → is_eq (QueryOrd.ghosts.cmp q other) ≡ r → IsTrue (answers_kind other b)
  at other b is true e =
      let same : q ≡ other = (order_decides q other).0 e in
      let found : answer_to after other ≡ Some a = updated other ∙ ap (λ r. cond r (Some a) (answer_to before other)) e in
      let one : a ≡ b = cc in
      subst (λ o. IsTrue (answers_kind o b)) same (subst (λ x. IsTrue (answers_kind q x)) one right)
  at other b is false e = kept.each other b (sym (updated other ∙ ap (λ r. cond r (Some a) (answer_to before other)) e) ∙ is)

pub after_put : (before after : List (Query × Answer)) (q : Query) (a : Answer) → IsUpdated before after q a → answer_to after q ≡ Some a → IsAfterPut before after q a
after_put before after q a updated answered =
    record { answered = answered; others = λ other apart. at other apart (is_eq (QueryOrd.ghosts.cmp q other)) refl }
  where
    at : (other : Query) → (other ≡ q → ⊥) → (r : Bool) → is_eq (QueryOrd.ghosts.cmp q other) ≡ r → answer_to after other ≡ answer_to before other
    at other apart true e = absurd (apart (sym ((order_decides q other).0 e)))
    at other apart false e = updated other ∙ ap (λ r. cond r (Some a) (answer_to before other)) e
