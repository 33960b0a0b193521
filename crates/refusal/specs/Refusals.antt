-- The thirteen refusals: each by its name, its number, and the layers that give it.
use Rattle.std.specs.Prelude.{ℕ, List, ◌++◌, codes, decimal}
use Rattle.refusal.specs.declared.Refusal.{Refusal}
use Rattle.refusal.specs.declared.Refusal.TheVariants.{Table, Take, Search, Memory, Transfer, Queue, File}
use Rattle.refusal.specs.declared.TableFault.TheVariants as table
use Rattle.refusal.specs.declared.TakeFault.TheVariants as take
use Rattle.refusal.specs.declared.SearchFault.TheVariants as search_fault
use Rattle.refusal.specs.declared.MemoryFault.TheVariants as memory
use Rattle.refusal.specs.declared.TransferFault.TheVariants as transfer
use Rattle.refusal.specs.declared.QueueFault.TheVariants as queue
use Rattle.refusal.specs.declared.FileFault.TheVariants as file
use Rattle.refusal.specs.declared.Layer.{Layer}
use Rattle.refusal.specs.declared.Layer.TheVariants as at

-- a word of a file has a one where zero is due
abbrev pub bad_form : ℕ
bad_form = 1

-- a word's length is not 1 to 24 bits
abbrev pub bad_length : ℕ
bad_length = 2

-- a word's value has more bits than its length
abbrev pub stray_bits : ℕ
stray_bits = 3

-- there is no room for one more
abbrev pub full : ℕ
full = 4

-- one word would be the start of another, or its equal
abbrev pub clash : ℕ
clash = 5

-- there is no such word, or none to drop
abbrev pub no_word : ℕ
no_word = 6

-- a soft value is outside −127 to 127
abbrev pub off_scale : ℕ
off_scale = 7

-- a count of words, or a place or a number of a pattern, is out of its range
abbrev pub bad_count : ℕ
bad_count = 8

-- a queue or lent memory is too small
abbrev pub short : ℕ
short = 9

-- no list of words fits
abbrev pub no_fit : ℕ
no_fit = 10

-- there is nothing to undo
abbrev pub nothing : ℕ
nothing = 11

-- a table has fewer than two words
abbrev pub no_pair : ℕ
no_pair = 12

-- a file stops before its end word
abbrev pub cut_off : ℕ
cut_off = 13

-- the number of each case of each layer
abbrev pub number : Refusal → ℕ
number (Table table.BadLength) = bad_length
number (Table table.StrayBits) = stray_bits
number (Table table.Full) = full
number (Table table.Clash) = clash
number (Table table.NoWord) = no_word
number (Table table.NoPair) = no_pair
number (Take take.Full) = full
number (Take take.OffScale) = off_scale
number (Search search_fault.BadCount) = bad_count
number (Search search_fault.Short) = short
number (Search search_fault.NoFit) = no_fit
number (Memory memory.BadCount) = bad_count
number (Memory memory.Nothing) = nothing
number (Transfer transfer.Full) = full
number (Transfer transfer.NoWord) = no_word
number (Transfer transfer.Short) = short
number (Queue queue.Short) = short
number (File file.BadForm) = bad_form
number (File file.CutOff) = cut_off

abbrev pub layer : Refusal → Layer
layer (Table f) = at.Table
layer (Take f) = at.Take
layer (Search f) = at.Search
layer (Memory f) = at.Memory
layer (Transfer f) = at.Transfer
layer (Queue f) = at.Queue
layer (File f) = at.File

abbrev pub layer_name : Layer → List ℕ
layer_name at.Table = codes "table"
layer_name at.Take = codes "take"
layer_name at.Search = codes "search"
layer_name at.Memory = codes "memory"
layer_name at.Transfer = codes "transfer"
layer_name at.Queue = codes "queue"
layer_name at.File = codes "file"

-- how a refusal is written: its number, a space, its layer
abbrev pub text : Refusal → List ℕ
text r = decimal (number r) ++ (codes " " ++ layer_name (layer r))
