-- Law of the samples' range: every sample's bytes are. Assumes nothing.
use mathlib.Core.List.{List, [], ◌∷◌}
use mathlib.Core.Path.{◌≡◌, refl, ap}
use mathlib.Core.Bool.{◌&&◌}
use lib.Dec.{leb}
use Rattle.std.specs.List.{list_all}
use Rattle.sender_rules.specs.declared.Sample.{Sample}
use Rattle.sender_rules.specs.Connections.Records.{most_bytes, bytes_in_range}

pub all_in_range : (l : List Sample) → list_all (λ s. leb s.bytes most_bytes) l ≡ bytes_in_range l
unfolding bytes_in_range
all_in_range [] = refl
all_in_range (s ∷ l) = ap (λ b. leb s.bytes most_bytes && b) (all_in_range l)
