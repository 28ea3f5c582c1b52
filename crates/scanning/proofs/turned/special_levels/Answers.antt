-- Sorted, and each once.
use Rattle.std.specs.Ordering.{int_eq}
use Rattle.std.proofs.lemmas.List.Filters.{dedup_is}
use Rattle.scanning.proofs.TurnedLevels.{levels_from_turned}
use Rattle.scanning.proofs.turned.special_levels.Goals as goal

pub returns : goal.returns
returns c =
    levels_from_turned _ _ _ c.in_ok-levels.levels.items c.sort_unstable.new.self.items _ c.in_ok-levels.ensures
    c.sort_unstable.ensures.permutation c.sort_unstable.ensures.sorted (dedup_is int_eq _ _ c.dedup.ensures.filtered)
