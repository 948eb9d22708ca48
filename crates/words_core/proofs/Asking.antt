-- What an answer comes from.
use Rattle.std.proofs.Common.{◌≡◌, ◌≢◌, ◌∙◌, sym, ap, inl, inr, true, Option, None, []}
use Rattle.std.specs.Prelude.{Result, Ok, Err}
use Rattle.clap.specs.Words.{Kinds, HasKind, kind_of}
use Rattle.clap.specs.declared.error.Error.{Error}
use Rattle.clap.specs.declared.error.kind.ErrorKind.{ErrorKind}
use Rattle.clap.specs.declared.error.kind.ErrorKind.TheVariants.{OutOfMemory}
use Rattle.words_core.specs.Asked.{Allows, Gives, HasFault, IsFault, Tells, asks_for_text}
use Rattle.words_core.specs.declared.asked.Asked.{Asked}
use Rattle.words_core.specs.declared.asked.Asked.TheVariants as asked
use Rattle.words_core.specs.declared.asked.WordsError.{WordsError}
use Rattle.words_core.specs.declared.asked.WordsError.TheVariants.{Usage, NoMemory}
use Rattle.words_core.specs.declared.command.Command.{Command}

no_text : (kind : ErrorKind) → asks_for_text kind ≡ true → kind ≡ OutOfMemory → ⊥
no_text kind asks is = cc (sym (ap asks_for_text is) ∙ asks)

pub told : (kinds : Kinds) (command : Option Command) (e : Error) (answer : Result Asked WordsError) → HasKind kinds e → Tells (kind_of e) answer → Allows kinds command answer
told kinds command e (Ok (asked.Command c)) has tells = absurd tells
told kinds command e (Ok (asked.Text text)) (inl out) tells = absurd (no_text (kind_of e) tells out)
told kinds command e (Ok (asked.Text text)) (inr among) tells = (kind_of e, among, tells)
told kinds command e (Err Usage) (inl out) tells = absurd (tells.1 out)
told kinds command e (Err Usage) (inr among) tells = (kind_of e, among, tells.0)
told kinds command e (Err NoMemory) has tells = tt

pub given : (kinds : Kinds) (command : Option Command) (answer : Result Asked WordsError) → kinds ≡ [] → (kinds ≡ [] → command ≢ None) → Gives command answer → Allows kinds command answer
given kinds command (Ok (asked.Command c)) none named gives = (none, gives)
given kinds command (Ok (asked.Text text)) none named gives = absurd gives
given kinds command (Err Usage) none named gives = absurd (named none gives)
given kinds command (Err NoMemory) none named gives = absurd gives

-- a fault that asks for no text is among those that words may have
pub refused : (kinds : Kinds) (e : Error) → HasKind kinds e → IsFault (kind_of e) → HasFault kinds
refused kinds e (inl out) fault = absurd (fault.1 out)
refused kinds e (inr among) fault = (kind_of e, among, fault.0)
