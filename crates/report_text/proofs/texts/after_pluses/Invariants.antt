use Rattle.std.proofs.Common.{◌≡◌, take}
use Rattle.std.specs.List.{flat_map}
use Rattle.report_text.specs.Texts.{after_plus}
use Rattle.report_text.proofs.texts.after_pluses.Given as goal

abbrev pub invariant-loop-text : goal.invariant-loop-text
invariant-loop-text l = l.out.items ≡ flat_map after_plus (take l.text-index l.texts)
