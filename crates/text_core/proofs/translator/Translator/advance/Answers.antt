use Rattle.text_core.proofs.translator.Translator.advance.Goals as goal

pub returns-in-Print-clause-run : goal.returns-in-Print-clause-run
returns-in-Print-clause-run g c = rw c.in-Print.is c.take_frame.ensures.run

pub returns-in-Pack-clause-run : goal.returns-in-Pack-clause-run
returns-in-Pack-clause-run g c = rw c.in-Pack.is c.take_line.ensures.run
