use Rattle.mir_mem.specs.Flat.{areas_of}
use Rattle.mir_mem.proofs.Parts.{copied-none, copied-stack, copied-heap, inside-stack, inside-heap, invalid-absurd}
use Rattle.mir_mem.proofs.flat.FlatMemory.put_from.Goals as goal

pub returns-then-from-eq0-clause-written : goal.returns-then-from-eq0-clause-written
returns-then-from-eq0-clause-written c = copied-none (areas_of c.args.self.now) c.args.to c.args.from.addr c.args.from.size c.if-from-eq0.true

pub copy_from_stack-requires : goal.copy_from_stack-requires
copy_from_stack-requires c = inside-stack (areas_of c.args.self.now) c.args.from.addr c.in-Stack.place c.args.from.size c.in-Stack.is c.if-from-eq0.false c.requires

pub copy_from_heap-requires : goal.copy_from_heap-requires
copy_from_heap-requires c = inside-heap (areas_of c.args.self.now) c.args.from.addr c.in-Heap.place c.args.from.size c.in-Heap.is c.if-from-eq0.false c.requires

pub returns-in-Stack-clause-written : goal.returns-in-Stack-clause-written
returns-in-Stack-clause-written c =
    let there = inside-stack (areas_of c.args.self.now) c.args.from.addr c.in-Stack.place c.args.from.size c.in-Stack.is c.if-from-eq0.false c.requires in
    rw (copied-stack (areas_of c.args.self.now) c.args.to c.args.from.addr c.in-Stack.place c.args.from.size c.in-Stack.is c.if-from-eq0.false there) c.copy_from_stack.ensures.written

pub returns-in-Stack-clause-refused : goal.returns-in-Stack-clause-refused
returns-in-Stack-clause-refused c =
    let there = inside-stack (areas_of c.args.self.now) c.args.from.addr c.in-Stack.place c.args.from.size c.in-Stack.is c.if-from-eq0.false c.requires in
    rw (copied-stack (areas_of c.args.self.now) c.args.to c.args.from.addr c.in-Stack.place c.args.from.size c.in-Stack.is c.if-from-eq0.false there) c.copy_from_stack.ensures.refused

pub returns-in-Heap-clause-written : goal.returns-in-Heap-clause-written
returns-in-Heap-clause-written c =
    let there = inside-heap (areas_of c.args.self.now) c.args.from.addr c.in-Heap.place c.args.from.size c.in-Heap.is c.if-from-eq0.false c.requires in
    rw (copied-heap (areas_of c.args.self.now) c.args.to c.args.from.addr c.in-Heap.place c.args.from.size c.in-Heap.is c.if-from-eq0.false there) c.copy_from_heap.ensures.written

pub returns-in-Heap-clause-refused : goal.returns-in-Heap-clause-refused
returns-in-Heap-clause-refused c =
    let there = inside-heap (areas_of c.args.self.now) c.args.from.addr c.in-Heap.place c.args.from.size c.in-Heap.is c.if-from-eq0.false c.requires in
    rw (copied-heap (areas_of c.args.self.now) c.args.to c.args.from.addr c.in-Heap.place c.args.from.size c.in-Heap.is c.if-from-eq0.false there) c.copy_from_heap.ensures.refused

pub returns-in-Invalid-clause-refused : goal.returns-in-Invalid-clause-refused
returns-in-Invalid-clause-refused c =
    absurd (invalid-absurd (areas_of c.args.self.now) c.args.from.addr _ c.args.from.size c.in-Invalid.is c.if-from-eq0.false c.requires)
