pub mod KeyName
