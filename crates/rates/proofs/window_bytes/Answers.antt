-- `rates::window_bytes` meets its contract: the reply in segments, times the segment size, fits 64 bits. Assumes nothing.
use Rattle.rates.proofs.WindowLaws.{bytes_answered}
use Rattle.rates.proofs.window_bytes.Goals as goal

pub overflow_mul-result : goal.overflow_mul-result
overflow_mul-result c = record { fits = (bytes_answered _ _ _ _ _ c.in_ok-segments.ensures).0 }
