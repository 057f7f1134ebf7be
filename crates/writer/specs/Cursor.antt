-- What the methods of a cursor do, for their contracts.
use Rattle.std.specs.Prelude.{ℕ, ◌≡◌, List}
use Rattle.writer.specs.declared.Cursor.{Cursor}
use Rattle.writer.specs.Code.{Puts}

-- a text is put at a cursor's place, which is the place after it then; the buffer is the one that was lent
pub record Moves (old new : Cursor) (text : List ℕ) : Type 0 where
  pub puts : Puts old.buf.now old.at text new.buf.now new.at
  pub same_reference : new.buf.ghost_name ≡ old.buf.ghost_name
