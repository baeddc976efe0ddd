-- The limits: the most that there may be of each thing.
use Rattle.std.specs.Prelude.{ℕ}

-- programs of terminals, and programs of servers
abbrev pub most_programs : ℕ
most_programs = 32

-- programs of servers
abbrev pub most_servers : ℕ
most_servers = 32

-- server classes, and processes of one class
abbrev pub most_classes : ℕ
most_classes = 16

-- processes of one class
abbrev pub most_processes : ℕ
most_processes = 16

-- files
abbrev pub most_files : ℕ
most_files = 16

-- pairs, and started terminals
abbrev pub most_tcps : ℕ
most_tcps = 8

-- started terminals
abbrev pub most_terminals : ℕ
most_terminals = 128

-- restarts of one unit
abbrev pub most_restarts : ℕ
most_restarts = 32767

-- entry lines of one terminal, pairs of a name and a value in one of them, and the last key: SF16
abbrev pub most_entry_lines : ℕ
most_entry_lines = 4096

-- pairs of a name and a value in one entry line
abbrev pub most_pairs : ℕ
most_pairs = 1840

-- the number of the last key, SF16
abbrev pub last_key : ℕ
last_key = 32

-- failure lines, and entries after which one is due
abbrev pub most_fail_lines : ℕ
most_fail_lines = 64

-- entries after which a failure line is due
abbrev pub most_after : ℕ
most_after = 500000

-- entries of a log
abbrev pub most_log_lines : ℕ
most_log_lines = 500000

-- the most characters of storage of the programs that are active in a terminal
abbrev pub most_active : ℕ
most_active = 64000
