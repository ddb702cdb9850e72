use Rattle.std.proofs.Common.{refl, arith}
use Rattle.lexer.proofs.Fronts.{name_moves, name_lawful}
use Rattle.lexer.proofs.reader.name_at.Goals as goal

pub returns-clause-lies : goal.returns-clause-lies
returns-clause-lies c = record {
  after = omega arith;
  ordered = omega arith;
  within = c.name_end-stop.ensures.within;
  spans = (name_moves _ _ _ c.requires.within c.requires.letter c.name_end-stop.ensures.ends, refl, name_lawful _ _ _ c.requires.within c.requires.letter c.name_end-stop.ensures.ends c.if-stop-start-gt-MAX_NAME.false);
}
