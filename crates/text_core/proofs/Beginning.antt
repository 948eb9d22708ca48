-- A stream of which nothing was read yet.
use Rattle.std.proofs.Common.{◌≡◌, ℕ, false, List, [], refl, sym, ap, arith}
use Rattle.std.specs.Prelude.{Option, Some}
use Rattle.host_core.proofs.Known.{append_known-nil}
use Rattle.host_core.specs.Outside.{Outside}
use Rattle.text_core.specs.declared.kind.Kind.{Kind}
use Rattle.text_core.specs.declared.task.Task.{Task}
use Rattle.text_core.specs.declared.translator.Translator.{Translator}
use Rattle.stream_core.proofs.Streamed.{TellsApart}
use Rattle.text_core.specs.Streams.{units_of, rest_of, output_of}
use Rattle.stream_core.specs.Answering.{HasRead}
use Rattle.text_core.specs.Translated.{IsEnd, IsAnswer, bytes_max}
use Rattle.text_core.specs.InternalStreams.{Begins, Given, Reads, Translates}
use Rattle.text_core.proofs.Answering.{answers_by}
use Rattle.text_core.proofs.Reading.{within_prefix}
use Rattle.text_core.proofs.Units.{outcome}

abbrev pub fresh : Translator
fresh = record { cutter = []; line = []; writer = record { number = 0; bad = false; output = [] } }

none_read : (task : Task) → (units_of task [] ≡ []) × Begins task fresh (rest_of task [])
unfolding units_of rest_of
none_read task = grind arith

reads_none : (task : Task) (kind : Kind) (sent : Option (List ℕ)) → Reads task kind sent [] fresh [] sent
reads_none task kind sent = record {
  answers = answers_by (ap (outcome (output_of task kind)) (none_read task).0) refl refl (record { sent = []; known = sym (append_known-nil sent); whole = refl });
  begun = λ going. (none_read task).1;
}

-- what a stream is given over an input
abbrev pub given_for : Task → Kind → List ℕ → Outside → Given
given_for task kind input now = record { task = task; kind = kind; begin = now.sent; input = input; most = bytes_max }

pub starts : (task : Task) (kind : Kind) (input : List ℕ) (now : Outside) (waiting : List ℕ) (translator : Translator) → waiting ≡ [] → translator ≡ fresh → now.input ≡ Some input
    → HasRead (λ count waiting later. Translates (given_for task kind input now) count waiting (record { task = task; kind = kind; translator = translator }) later) input 0 waiting now
starts task kind input now waiting translator none is known =
    let prefix = within_prefix task bytes_max input kind 0 (omega arith) in
    record {
      input_left = known;
      there = omega arith;
      reads = rw (none, is) (record { task_is = refl; kind_is = refl; reads = reads_none task kind now.sent; more = prefix.more; whole = prefix.whole });
    }

-- no fault is an end
pub tells : (task : Task) → TellsApart IsEnd (IsAnswer task)
tells task = record { read = tt; send = tt; memory = tt; no_read = λ end. end; no_send = λ end. end; no_memory = λ end. end }
