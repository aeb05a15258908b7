-- Rows of statements and of blocks, one more at the end, and those of a block at its place.
use Rattle.std.proofs.Common.{◌≡◌, ℕ, zero, suc, ◌+◌, ◌<◌, ◌≤◌, Bool, true, false, List, [], ◌∷◌, ◌++◌, length, get_or, take, Option, Some, None, Bor, slice_get, refl, sym, ap, subst, ◌∙◌, append-nil, arith}
use Rattle.std.specs.Prelude.{IfNone, IfSome}
use Rattle.std.specs.Slice.{IsItemAt}
use Rattle.std.proofs.lemmas.List.{take_more}
use Rattle.std.proofs.lemmas.Option.{same_Some, slice_get_past, slice_get_read}
use Rattle.mir.specs.declared.body.BasicBlock.{BasicBlock}
use Rattle.mir.specs.declared.statement.Statement.{Statement}
use Rattle.mir_rows.specs.declared.row.BlockRows.{BlockRows}
use Rattle.mir_rows.specs.declared.row.Row.{Row}
use Rattle.mir_rows.specs.Rows.{is_idle, AreBlocks, AreRows, HasRows, IsBlock, IsRow, RowsFrom, Says}
use Rattle.mir_rows.specs.Spots.{Prepared}

module _ (code : Prepared) (block : List Statement) where
  -- what holds of the rows after one statement's
  below : (statement : Statement) (idle : Bool) (P Q : List Row → Type 0) (rows others : List Row) → ((rest : List Row) → P rest → Q (rest ++ others)) → RowsFrom code block statement idle P rows → RowsFrom code block statement idle Q (rows ++ others)
  below statement true P Q rows others further are = further rows are
  below statement false P Q [] others further are = absurd are
  below statement false P Q (row ∷ rows) others further are = (are.0, further rows are.1)

  -- the rows of more statements
  rows-append : (done more : List Statement) (rows others : List Row) → AreRows code block done rows → AreRows code block more others → AreRows code block (done ++ more) (rows ++ others)
  rows-append [] more [] others are further = further
  rows-append [] more (row ∷ rows) others are further = absurd are
  rows-append (statement ∷ done) more rows others are further =
      below statement (is_idle statement.kind) (AreRows code block done) (AreRows code block (done ++ more)) rows others (λ rest h. rows-append done more rest others h further) are

  rows-one : (statement : Statement) (others : List Row) → RowsFrom code block statement (is_idle statement.kind) (AreRows code block []) others → AreRows code block (statement ∷ []) others
  rows-one statement others are = are

  module _ (statement : Statement) (i : ℕ) (rows : List Row) (less : i < length block) (is : statement ≡ get_or block i statement) (are : AreRows code block (take i block) rows) where
    -- the rows up to one statement more
    rows-next : (others : List Row) → RowsFrom code block statement (is_idle statement.kind) (AreRows code block []) others → AreRows code block (take (i + 1) block) (rows ++ others)
    rows-next others one =
        let next : take (i + 1) block ≡ take i block ++ statement ∷ [] = take_more block i statement less ∙ ap (λ (x : Statement). take i block ++ x ∷ []) (sym is) in
        subst (λ (statements : List Statement). AreRows code block statements (rows ++ others)) (sym next) (rows-append (take i block) (statement ∷ []) rows others are (rows-one statement others one))

    -- the rows up to one statement more, which does nothing
    pub rows-idle : is_idle statement.kind ≡ true → AreRows code block (take (i + 1) block) rows
    rows-idle idle =
        subst (AreRows code block (take (i + 1) block)) (append-nil rows)
        (rows-next [] (subst (λ (idle : Bool). RowsFrom code block statement idle (AreRows code block []) []) (sym idle) tt))

    -- the rows up to one statement more, which does something
    pub rows-more : (row : Row) → is_idle statement.kind ≡ false → row.place ≡ i → Says code row.action statement.kind → AreRows code block (take (i + 1) block) (rows ++ row ∷ [])
    rows-more row busy place says =
        let stands : slice_get block row.place ≡ Some statement = subst (λ (at : ℕ). slice_get block at ≡ Some statement) (sym place) (slice_get_read block (length block) i statement refl less is) in
        let is : IsRow code block statement row = record { stands = stands; says = says } in
        rows-next (row ∷ []) (subst (λ (idle : Bool). RowsFrom code block statement idle (AreRows code block []) (row ∷ [])) (sym busy) (is, tt))

module _ (code : Prepared) where
  -- the rows of one block more
  pub blocks-append : (done : List BasicBlock) (all : List BlockRows) (block : BasicBlock) (rows : BlockRows) → AreBlocks code done all → IsBlock code block rows → AreBlocks code (done ++ block ∷ []) (all ++ rows ∷ [])
  blocks-append [] [] block rows are is = (is, tt)
  blocks-append [] (other ∷ all) block rows are is = absurd are
  blocks-append (one ∷ done) [] block rows are is = absurd are
  blocks-append (one ∷ done) (other ∷ all) block rows are is = (are.0, blocks-append done all block rows are.1 is)

  -- the rows up to one block more
  pub blocks-more : (blocks : List BasicBlock) (all : List BlockRows) (i : ℕ) (block : BasicBlock) (rows : BlockRows) → i < length blocks → block ≡ get_or blocks i block → AreBlocks code (take i blocks) all → IsBlock code block rows → AreBlocks code (take (i + 1) blocks) (all ++ rows ∷ [])
  blocks-more blocks all i block rows less found are is =
      let next : take (i + 1) blocks ≡ take i blocks ++ block ∷ [] = take_more blocks i block less ∙ ap (λ (x : BasicBlock). take i blocks ++ x ∷ []) (sym found) in
      subst (λ (some : List BasicBlock). AreBlocks code some (all ++ rows ∷ [])) (sym next) (blocks-append (take i blocks) all block rows are is)

  -- there are as many blocks as there are rows of blocks
  blocks-length : (blocks : List BasicBlock) (all : List BlockRows) → AreBlocks code blocks all → length blocks ≡ length all
  blocks-length [] [] are = refl
  blocks-length [] (rows ∷ all) are = absurd are
  blocks-length (block ∷ blocks) [] are = absurd are
  blocks-length (block ∷ blocks) (rows ∷ all) are = let e = blocks-length blocks all are.1 in omega arith

  -- the block of the rows at a place
  found-at : (blocks : List BasicBlock) (all : List BlockRows) (place : ℕ) (rows : BlockRows) → slice_get all place ≡ Some rows → AreBlocks code blocks all → (block : BasicBlock) × (slice_get blocks place ≡ Some block) × IsBlock code block rows
  found-at [] [] place rows at are = absurd (cc)
  found-at [] (other ∷ all) place rows at are = absurd are
  found-at (block ∷ blocks) [] place rows at are = absurd are
  found-at (block ∷ blocks) (other ∷ all) zero rows at are = (block, refl, subst (IsBlock code block) (same_Some other rows at) are.0)
  found-at (block ∷ blocks) (other ∷ all) (suc place) rows at are = found-at blocks all place rows at are.1

  -- the rows at a place that a look-up found, and none where it found none
  pub rows-found : (all : List BlockRows) (place : ℕ) (found : Option (Bor BlockRows)) → IsItemAt all place found → AreBlocks code code.body.basic_blocks all → IfSome found (λ rows. HasRows code place rows.now)
  rows-found all place None at are = tt
  rows-found all place (Some rows) at are =
      let block = found-at code.body.basic_blocks all place rows.now (slice_get_read all (length all) place rows.now refl at.3.0 at.1) are in
      record { block = block.0; found = block.1; are = block.2 }

  pub none-found : (all : List BlockRows) (place : ℕ) (found : Option (Bor BlockRows)) → IsItemAt all place found → AreBlocks code code.body.basic_blocks all → IfNone found (slice_get code.body.basic_blocks place ≡ None)
  none-found all place None at are =
      let same : length code.body.basic_blocks ≡ length all = blocks-length code.body.basic_blocks all are in
      let past : length all ≤ place = at.3 in
      slice_get_past code.body.basic_blocks place (omega arith)
  none-found all place (Some rows) at are = tt
