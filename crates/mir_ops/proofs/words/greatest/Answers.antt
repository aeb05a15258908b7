use Rattle.std.proofs.Common.{refl}
use Rattle.mir_ops.proofs.words.greatest.Goals as goal

pub returns-in-One : goal.returns-in-One
returns-in-One c = rw c.in-One.is refl

pub returns-in-Two : goal.returns-in-Two
returns-in-Two c = rw c.in-Two.is refl

pub returns-in-Four : goal.returns-in-Four
returns-in-Four c = rw c.in-Four.is refl

pub returns-in-Eight : goal.returns-in-Eight
returns-in-Eight c = rw c.in-Eight.is refl
