pub mod TagScans
