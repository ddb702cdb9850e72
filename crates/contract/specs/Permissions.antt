-- What terms permit of a path.
use Rattle.lexer.specs.Names.{Path}
use Rattle.contract.specs.Terms.{Terms}
use Rattle.contract.specs.declared.permits.Permission.{Permission}

abbrev pub permission : Terms → Path → Permission
permission t p = record { read = t.reads p; write = t.writes p }
