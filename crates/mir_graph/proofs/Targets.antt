-- The loops and labelled blocks of the code as a jump finds them: the innermost first.
use Rattle.std.proofs.Common.{◌≡◌, ℕ, suc, List, [], ◌∷◌, ◌++◌, map, take, Option, Some, ap, ◌∙◌}
use Rattle.std.specs.Prelude.{reverse, slice_get, if◌then◌else◌}
use Rattle.std.proofs.lemmas.List.{map-append, reverse-append}
use Rattle.types.specs.declared.ids.LabelId.{LabelId}
use Rattle.source_meaning.specs.Around.{is_meant}
use Rattle.mir_graph.specs.declared.graph.LoopBlocks.{LoopBlocks}
use Rattle.mir_graph.specs.Graph.{target_of_blocks, targets_of, meant_target}
use Rattle.mir_graph.proofs.Lists.{take-next}

-- the last loop or labelled block that was entered is the innermost one
pub targets-last : (loops : List LoopBlocks) (blocks : LoopBlocks) → targets_of (loops ++ blocks ∷ []) ≡ target_of_blocks blocks ∷ targets_of loops
targets-last loops blocks = ap reverse (map-append target_of_blocks loops (blocks ∷ [])) ∙ reverse-append (map target_of_blocks loops) (target_of_blocks blocks ∷ [])

-- one of them is the one that a jump means, or one further out
pub meant-next : (label : Option LabelId) (loops : List LoopBlocks) (k : ℕ) (blocks : LoopBlocks) → slice_get loops k ≡ Some blocks → meant_target label (targets_of (take (suc k) loops)) ≡ (if is_meant label (target_of_blocks blocks).opened then Some (target_of_blocks blocks) else meant_target label (targets_of (take k loops)))
unfolding meant_target
meant-next label loops k blocks found = ap (λ (l : List LoopBlocks). meant_target label (targets_of l)) (take-next loops k blocks found) ∙ ap (meant_target label) (targets-last (take k loops) blocks)
