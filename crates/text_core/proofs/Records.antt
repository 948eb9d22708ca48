-- Each record is found in its own line.
use Rattle.std.proofs.Common.{◌≡◌, ℕ, suc, List, [], get_or, IsAscii, Some, ap, sym, ◌∙◌, arith}
use Rattle.wire_in.specs.Spelling.{HasTypes, InRange}
use Rattle.wire_in.specs.declared.record.Record.{Record}
use Rattle.text_core.specs.Lines.{line_of_record, words_of_record, PrintsRecord}
use Rattle.text_core.specs.Reading.{word_at, behind, day_of, listing_of, trade_of, cancel_of, quote_of, index_tick_of, clock_of, notice_of, indication_of, record_of}
use Rattle.text_core.proofs.Fields.{moment_again, date_again, index_again, name_again, leverage_again, optional_again, number16_again, number32_again, price_again, flags_again}
use Rattle.text_core.proofs.Plain.{time_plain, date_plain, index_plain, name_plain, decimal_plain, optional_plain, price_plain, flags_plain}
use Rattle.text_core.proofs.Words.{ArePlain, word_is, word_later, line_ascii}

words_plain : (x : Record) → HasTypes x → ArePlain (words_of_record x)
words_plain x h = grind (arith, time_plain, date_plain, index_plain, name_plain, decimal_plain, optional_plain, price_plain, flags_plain)

pub record_ascii : (x : Record) → HasTypes x → IsAscii (line_of_record x)
record_ascii x h = line_ascii (words_of_record x) (words_plain x h)

words_are : (x : Record) → HasTypes x → (n : ℕ) → word_at n (line_of_record x) ≡ get_or (words_of_record x) n []
words_are x h n = word_is n (words_of_record x) (words_plain x h)

later_are : (x : Record) → HasTypes x → (n : ℕ) → word_at n (behind (line_of_record x)) ≡ get_or (words_of_record x) (suc n) []
later_are x h n = sym (word_later n (line_of_record x)) ∙ words_are x h (suc n)

-- a record is found in its line
typed : (x : Record) → HasTypes x → InRange x → record_of (line_of_record x) ≡ Some x
unfolding record_of day_of listing_of trade_of cancel_of quote_of index_tick_of clock_of notice_of indication_of
typed x h r = grind (arith, words_are x h 0, later_are x h, moment_again, date_again, index_again, name_again, leverage_again, optional_again, number16_again, number32_again, price_again, flags_again)

pub record_found : (line : List ℕ) (x : Record) → PrintsRecord line x → record_of line ≡ Some x
record_found line x p = ap record_of p.text ∙ typed x p.sound.types p.sound.ranges
