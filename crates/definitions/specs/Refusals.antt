-- Refusals: the number of each ground on which a call refuses.
--
--   number r      the ground's number, which the fault line prints and the documents explain
--   printed r     the refusal as it is printed: "refused by" and the number
--   place r       the line or the port that a refusal tells, 0 where it tells none
--   field r       the field that it tells, 0 where it tells none
--   carried r     the number of the ground on which an entry of a text was refused, 0 elsewhere

use Rattle.std.specs.Prelude.{ℕ, List, ◌++◌, decimal, codes}
use Rattle.definitions.specs.declared.refusals.Refusal.{Refusal}
use Rattle.definitions.specs.declared.refusals.Refusal.TheVariants.{RateUnknown, PortPresent, PortTableFull, GapUnknown, OutOfRange, LinkPresent, LinkTableFull, LinkUnknown, PortUnknown, HopPresent, KindUnsuited, SecondFirstHop, NoHopBefore, HopTableFull, BookNotEmpty, ByteForbidden, LineUnfinished, MarkMissing, VersionUnknown, HeadingWrong, FieldCountWrong, FieldUnreadable, EntryRefused, OutputShort, LoadTableShort, PortOverloaded, PortInRing, FigurePastLimit, NoFigures, NoHopThere, NoHops}

abbrev pub number : Refusal → ℕ
-- entering a port
number RateUnknown = 1  -- the rate is neither 10 nor 100 Mb/s
number PortPresent = 2  -- the book has a port of this number
number PortTableFull = 3
-- entering a virtual link; making a load
number GapUnknown = 4  -- the gap is none of 1, 2, 4, 8, 16, 32, 64, 128 ms
number OutOfRange = 5  -- the lengths, or a load's occupancy or jitter, break their rule
number LinkPresent = 6  -- the book has a link of this number
number LinkTableFull = 7
-- entering a hop; removing a link
number LinkUnknown = 8
number PortUnknown = 9
number HopPresent = 10  -- the link has a hop at this port
number KindUnsuited = 11  -- a first hop is at an end system's port, every other at a switch's
number SecondFirstHop = 12
number NoHopBefore = 13  -- the link has no hop at the port named as before
number HopTableFull = 14
-- reading a text: each tells the line
number BookNotEmpty = 15
number (ByteForbidden line) = 16
number (LineUnfinished line) = 17  -- the last byte is no line feed, or there is none
number (MarkMissing line) = 18  -- the first line is not mark and version
number (VersionUnknown line) = 19
number (HeadingWrong line) = 20  -- missing, not the one due, or lacks or repeats a column
number (FieldCountWrong line) = 21
number (FieldUnreadable line field) = 22
number (EntryRefused line g) = 23  -- an entry was refused on this ground
-- writing a text or a listing
number OutputShort = 24
-- working out: each but the first tells the port
number LoadTableShort = 25
number (PortOverloaded port) = 26
number (PortInRing port) = 27
number (FigurePastLimit port) = 28
-- questions
number NoFigures = 29
number NoHopThere = 30
number NoHops = 31  -- the link has no hops

abbrev pub printed : Refusal → List ℕ
printed r = codes "refused by " ++ decimal (number r)

abbrev pub place : Refusal → ℕ
place RateUnknown = 0
place PortPresent = 0
place PortTableFull = 0
place GapUnknown = 0
place OutOfRange = 0
place LinkPresent = 0
place LinkTableFull = 0
place LinkUnknown = 0
place PortUnknown = 0
place HopPresent = 0
place KindUnsuited = 0
place SecondFirstHop = 0
place NoHopBefore = 0
place HopTableFull = 0
place BookNotEmpty = 0
place (ByteForbidden line) = line
place (LineUnfinished line) = line
place (MarkMissing line) = line
place (VersionUnknown line) = line
place (HeadingWrong line) = line
place (FieldCountWrong line) = line
place (FieldUnreadable line f) = line
place (EntryRefused line g) = line
place OutputShort = 0
place LoadTableShort = 0
place (PortOverloaded port) = port
place (PortInRing port) = port
place (FigurePastLimit port) = port
place NoFigures = 0
place NoHopThere = 0
place NoHops = 0

abbrev pub field : Refusal → ℕ
field RateUnknown = 0
field PortPresent = 0
field PortTableFull = 0
field GapUnknown = 0
field OutOfRange = 0
field LinkPresent = 0
field LinkTableFull = 0
field LinkUnknown = 0
field PortUnknown = 0
field HopPresent = 0
field KindUnsuited = 0
field SecondFirstHop = 0
field NoHopBefore = 0
field HopTableFull = 0
field BookNotEmpty = 0
field (ByteForbidden line) = 0
field (LineUnfinished line) = 0
field (MarkMissing line) = 0
field (VersionUnknown line) = 0
field (HeadingWrong line) = 0
field (FieldCountWrong line) = 0
field (FieldUnreadable line f) = f
field (EntryRefused line g) = 0
field OutputShort = 0
field LoadTableShort = 0
field (PortOverloaded port) = 0
field (PortInRing port) = 0
field (FigurePastLimit port) = 0
field NoFigures = 0
field NoHopThere = 0
field NoHops = 0

abbrev pub carried : Refusal → ℕ
carried RateUnknown = 0
carried PortPresent = 0
carried PortTableFull = 0
carried GapUnknown = 0
carried OutOfRange = 0
carried LinkPresent = 0
carried LinkTableFull = 0
carried LinkUnknown = 0
carried PortUnknown = 0
carried HopPresent = 0
carried KindUnsuited = 0
carried SecondFirstHop = 0
carried NoHopBefore = 0
carried HopTableFull = 0
carried BookNotEmpty = 0
carried (ByteForbidden line) = 0
carried (LineUnfinished line) = 0
carried (MarkMissing line) = 0
carried (VersionUnknown line) = 0
carried (HeadingWrong line) = 0
carried (FieldCountWrong line) = 0
carried (FieldUnreadable line f) = 0
carried (EntryRefused line g) = g
carried OutputShort = 0
carried LoadTableShort = 0
carried (PortOverloaded port) = 0
carried (PortInRing port) = 0
carried (FigurePastLimit port) = 0
carried NoFigures = 0
carried NoHopThere = 0
carried NoHops = 0
