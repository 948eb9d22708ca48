-- What the watched parts of a host pass on.
use Rattle.detail_core.specs.declared.source.WatchedSource.{WatchedSource}
use Rattle.detail_core.specs.declared.sink.WatchedSink.{WatchedSink}
use Rattle.detail_core.specs.declared.files.WatchedFile.{WatchedFile}
use Rattle.detail_core.specs.declared.files.WatchedFiles.{WatchedFiles}

-- the input that is watched
abbrev pub source_of : {R : Type 0} → WatchedSource R → R
source_of watched = watched.source

-- the sink that is watched
abbrev pub sink_of : {W : Type 0} → WatchedSink W → W
sink_of watched = watched.sink

-- the file that is watched
abbrev pub file_of : {F : Type 0} → WatchedFile F → F
file_of watched = watched.file

-- what opens the files that are watched
abbrev pub files_of : {O : Type 0} → WatchedFiles O → O
files_of watched = watched.files
