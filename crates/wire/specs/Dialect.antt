-- By what a message is read: where it comes from says whose it is, and whether it may be a greeting; the edition of the
-- policy says which queries, commands and roles there are.
use Rattle.session_roles.specs.declared.edition.Edition.{Edition}
use Rattle.wire.specs.declared.dialect.Dialect.{Dialect}
use Rattle.wire.specs.declared.source.Source.{Source}

-- of a source of messages, in a session of an edition
abbrev pub dialect_of : Source → Edition → Dialect
dialect_of source edition = record { source = source; edition = edition }
