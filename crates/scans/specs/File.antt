-- A file: in the new layout its start, then scans one after another, to the end of the bytes. Assumes nothing.
use Rattle.std.specs.Prelude.{ℕ, ◌+◌, List, [], ◌∷◌, ◌++◌, length, drop, Result, Ok}
use Rattle.std.specs.Result.{result_and, result_unwrap_or}
use Rattle.ion.specs.Calls.Output.{put, wrote, put_after, wrote_after}
use Rattle.ion.specs.Calls.Contents.{Contents, contents, in_turn}
use Rattle.ion.specs.declared.refusal.Refusal.{Refusal}
use Rattle.scans.specs.Layout.{start_of, layout_of}
use Rattle.scans.specs.Scan.{scan_bytes, scan_check, read_scan}
use Rattle.scans.specs.declared.Layout.{Layout}
use Rattle.scans.specs.declared.Layout.TheVariants.{New}
use Rattle.scans.specs.declared.Scan.{Scan}

-- what the bytes after the start hold: the scans before their end, or before their damage, and the damage
unfoldable pub scans_in : Layout → List ℕ → Contents Scan
scans_in layout s = contents (read_scan layout) s

-- what a file holds
unfoldable pub contents_of : List ℕ → Contents Scan
contents_of s = let layout = layout_of s in scans_in layout (drop (length (start_of layout)) s)

-- the file of scans, which is new
unfoldable pub file_bytes : List Scan → List ℕ
file_bytes xs = start_of New ++ in_turn scan_bytes xs

-- ---- files written call by call, each from where the one before it ended

-- the buffer d after calls of the writer of scans, the first from index at on
unfoldable pub written_in_turn : List ℕ → ℕ → List Scan → List ℕ
written_in_turn d at [] = d
written_in_turn d at (x ∷ xs) =
    let w = wrote_after (scan_check x) d at (scan_bytes x) in
    written_in_turn (put_after (scan_check x) d at (scan_bytes x)) (at + result_unwrap_or w 0) xs

-- after the start's too
unfoldable pub file_in_turn : List ℕ → ℕ → List Scan → List ℕ
file_in_turn d at xs = written_in_turn (put d at (start_of New)) (at + result_unwrap_or (wrote d at (start_of New)) 0) xs

-- ---- the check of a whole file

-- how many scans it holds
unfoldable pub check_file_of : List ℕ → Result ℕ Refusal
check_file_of s = result_and (contents_of s).ending (Ok (length (contents_of s).items))
