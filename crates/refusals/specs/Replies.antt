-- What the result of a call says: the papers' value, or the number of the refusal. Assumes nothing.
use Rattle.std.specs.Prelude.{Result, Ok, Err}
use Rattle.refusals.specs.declared.Refusal.{Refusal}
use Rattle.refusals.specs.Numbers.{number_of}
use Rattle.refusals.specs.Reply.{Reply, answer, refuse}

abbrev pub told : {A : Type 0} → Result A Refusal → Reply A
told (Ok a) = answer a
told (Err why) = refuse (number_of why)
