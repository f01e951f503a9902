-- Cursors: what is left of a text while it is scanned. Lines, fields and numbers are those of the table text.
--
--   Cut c bs front rest   bs is front, c and the rest, where there is one; else it is front alone. No c stands in front.
--   lines_left l          the lines that l has still to give
--   fields_of_rest r      the fields of the rest, where there is one
--   fields_left f         the fields that f has still to give

use Rattle.std.specs.Prelude.{◌≡◌, ℕ, List, [], ◌∷◌, ◌++◌, Some, None, Option}
use Rattle.std.specs.Borrow.{Bor}
use Rattle.definitions.specs.Text.{lines, fields}
use Rattle.definitions.specs.Promises.{Lacks}
use Rattle.scan.specs.declared.Lines.{Lines}
use Rattle.scan.specs.declared.Fields.{Fields}

abbrev pub Cut : ℕ → List ℕ → List ℕ → Option (Bor (List ℕ)) → Type 0
Cut c bs front (Some rest) = Lacks c front × (bs ≡ front ++ (c ∷ rest.now))
Cut c bs front None = Lacks c front × (bs ≡ front)

abbrev pub lines_left : Lines → List (List ℕ)
lines_left l = lines l.rest.now

abbrev pub fields_of_rest : Option (Bor (List ℕ)) → List (List ℕ)
fields_of_rest (Some rest) = fields rest.now
fields_of_rest None = []

abbrev pub fields_left : Fields → List (List ℕ)
fields_left f = fields_of_rest f.rest
