-- The source that a context of lowering is.
use Rattle.source_meaning.specs.Source.{Source, monomorphic}
use Rattle.body_forms.specs.declared.context.Context.{Context}

abbrev pub source_of : Context → Source
source_of context = monomorphic context.db.now context.body.now context.infer.now
