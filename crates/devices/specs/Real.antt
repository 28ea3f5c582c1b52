-- What the real devices are made of.
use Rattle.std.specs.Prelude.{ℕ}
use Rattle.devices.specs.declared.real.RealSource.{RealSource}
use Rattle.devices.specs.declared.real.RealSink.{RealSink}

-- the reader that a source reads
abbrev pub reader_of : {R : Type 0} → RealSource R → R
reader_of source = source.reader

-- how often a source failed
abbrev pub source_faults : {R : Type 0} → RealSource R → ℕ
source_faults source = source.faults.count

-- the writer that a sink writes to
abbrev pub writer_of : {W : Type 0} → RealSink W → W
writer_of sink = sink.writer

-- how often a sink failed
abbrev pub sink_faults : {W : Type 0} → RealSink W → ℕ
sink_faults sink = sink.faults.count
