-- The reader of a source over std, and the writer of a sink over std.
use Rattle.s7_io.specs.declared.std_streams.StdSource.{StdSource}
use Rattle.s7_io.specs.declared.std_streams.StdSink.{StdSink}

-- the reader that a source reads from
abbrev pub reader_of : {R : Type 0} → StdSource R → R
reader_of source = source.inner

-- the writer that a sink writes to
abbrev pub writer_of : {W : Type 0} → StdSink W → W
writer_of sink = sink.inner
