-- A local that may need a drop function holds a value that may.
use Rattle.std.proofs.Common.{◌≡◌, ℕ, suc, Bool, true, false, List, [], ◌∷◌, Some, refl, ⊎_elim, ◌⊎◌, inl, inr}
use Rattle.std.specs.List.{list_any}
use Rattle.std.specs.Prelude.{not, ◌&&◌, ◌||◌, codes, is_some, slice_get}
use Rattle.mir.specs.declared.body.Local.{Local}
use Rattle.mir.specs.declared.body.MirBody.{MirBody}
use Rattle.mir.specs.declared.errors.MirLowerError.{MirLowerError}
use Rattle.mir.specs.declared.errors.MirLowerError.TheVariants as refusal
use Rattle.source_meaning.specs.Source.{Source, root}
use Rattle.world.specs.Lookups.{is_copy}
use Rattle.mir_lower.specs.Refusals.{HasDrops, RefusesInferred, needs_drops}
use Rattle.mir_lower.specs.Simulates.{Simulates}
use Rattle.mir_lower.proofs.Refused.{refuses-no-memory}

-- a local that passes a test
record Passing (test : Local → Bool) (locals : List Local) : Type 0 where
  pub place : ℕ
  pub local : Local
  pub there : slice_get locals place ≡ Some local
  pub passes : test local ≡ true

or-later : (test : Local → Bool) (first : Local) (others : List Local) → (list_any test others ≡ true → Passing test others) →
    (passes : Bool) → test first ≡ passes → (passes || list_any test others) ≡ true → Passing test (first ∷ others)
or-later test first others later true is some = record { place = 0; local = first; there = refl; passes = is }
or-later test first others later false is some =
    let one = later some in record { place = suc one.place; local = one.local; there = one.there; passes = one.passes }

passing : (test : Local → Bool) (locals : List Local) → list_any test locals ≡ true → Passing test locals
passing test [] some = cc
passing test (first ∷ others) some = or-later test first others (passing test others) (test first) refl some

both-hold : (one other : Bool) → (one && other) ≡ true → (one ≡ true) × (other ≡ true)
both-hold true true h = (refl, refl)
both-hold true false h = cc
both-hold false other h = cc

not-true : (b : Bool) → not b ≡ true → b ≡ false
not-true false h = refl
not-true true h = cc

has-drops : (source : Source) (body : MirBody) → Simulates source body → needs_drops source body.locals ≡ true → HasDrops source
has-drops source body simulates needs =
    let both = both-hold (is_some source.world.drop_fn) (list_any (λ local. not (is_copy source.infer local.ty)) body.locals) needs in
    let one = passing (λ local. not (is_copy source.infer local.ty)) body.locals both.1 in
    let held = simulates.cells one.place one.local one.there in
    record {
      drop_fn = both.0;
      cell = held.0;
      used = held.1;
      ty = one.local.ty;
      typed = held.2;
      no_copy = not-true (is_copy source.infer one.local.ty) one.passes;
    }

-- the refusal of what may need a drop function, or want of memory for its text
pub refuses-drops : (source : Source) (body : MirBody) (error : MirLowerError) → Simulates source body → needs_drops source body.locals ≡ true →
    (error ≡ refusal.NotSupported (codes "form not built")) ⊎ (error ≡ refusal.NoMemory) → RefusesInferred source error
refuses-drops source body error simulates needs cases =
    ⊎_elim (λ text. inl (text, has-drops source body simulates needs)) (λ none. inr (inr (refuses-no-memory source (root source) error none))) cases
