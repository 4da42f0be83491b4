-- What contracts see of the source over a reader and the sink over a writer.
use Rattle.std.specs.Prelude.{ℕ}
use Rattle.edit_io.specs.declared.real.ReadSource.{ReadSource}
use Rattle.edit_io.specs.declared.real.WriteSink.{WriteSink}

-- the reader that the source stands over
abbrev pub reader_of : {R : Type 0} → ReadSource R → R
reader_of source = source.reader

-- how many reads failed so far, up to the last value of a u64
abbrev pub read_faults : {R : Type 0} → ReadSource R → ℕ
read_faults source = source.faults

-- how many bytes were handed out so far, up to the last value of a u64
abbrev pub read_handed : {R : Type 0} → ReadSource R → ℕ
read_handed source = source.handed

-- the writer that the sink stands over
abbrev pub writer_of : {W : Type 0} → WriteSink W → W
writer_of sink = sink.writer

-- how many writes failed so far, up to the last value of a u64
abbrev pub write_faults : {W : Type 0} → WriteSink W → ℕ
write_faults sink = sink.faults
