-- How many bytes a body's cells take, against what its source counts.
use Rattle.std.proofs.Common.{◌≡◌, ◌-◌, ◌≤◌, List, Ok, arith}
use Rattle.std.specs.Prelude.{map, sum}
use Rattle.std.proofs.lemmas.List.Sums.{sum-map}
use Rattle.world.specs.Lookups.{layout_of}
use Rattle.mir.specs.Areas.{length_behind}
use Rattle.mir.specs.declared.address.CellSize.{CellSize}
use Rattle.mir.specs.declared.body.Local.{Local}
use Rattle.mir.specs.declared.body.MirBody.{MirBody}
use Rattle.mir.specs.Memory.{sizes_of}
use Rattle.mir_lower.specs.Simulates.{Simulates}
use Rattle.mir_lower.proofs.Lacking.{entering-room}
use Rattle.mir_lower.proofs.Taking.{behind-near, rooms, sizes-room}
use Rattle.source_meaning.specs.Entering.{entering, room_of}
use Rattle.source_meaning.specs.Source.{Source}

-- the cells of a body take no more bytes than its source counts on entering it
pub taken-within : (source : Source) (body : MirBody) (sizes : List CellSize) → Simulates source body → sizes_of source.world body.locals ≡ Ok sizes → length_behind 1 sizes - 1 ≤ (entering source).bytes
taken-within source body sizes simulates there =
    let near = behind-near 1 sizes in
    let same_rooms = sizes-room source.world body.locals sizes there in
    let counts = entering-room source in
    let room = simulates.room in
    let same : sum (map (λ (l : Local). room_of (layout_of source.world l.ty)) body.locals) ≡ rooms source.world body.locals = sum-map (λ (l : Local). room_of (layout_of source.world l.ty)) body.locals in
    omega arith
